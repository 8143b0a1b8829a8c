pub mod WorkLaws
pub mod EffectLaws
pub mod RanLaws
pub mod StepLaws
pub mod WalkLaws
pub mod LoopLaws
pub mod LeafLaws
