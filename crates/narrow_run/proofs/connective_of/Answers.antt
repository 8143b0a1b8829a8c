use Rattle.narrow_run.proofs.RunLaws.{connects_invert, connects_and, connects_or, connects_arrow, connects_negate, connects_compared, connects_other}
use Rattle.narrow_run.proofs.connective_of.Goals as goal

pub returns-in-0 : goal.returns-in-0
returns-in-0 c = connects_invert _ _ c.kind-kind.ensures c.detail-detail.ensures c.in-9.is c.in-0.is

pub returns-in_default-detail : goal.returns-in_default-detail
returns-in_default-detail c = connects_negate _ _ c.kind-kind.ensures c.detail-detail.ensures c.in-9.is (search)

pub returns-in-10 : goal.returns-in-10
returns-in-10 c = connects_and _ _ c.kind-kind.ensures c.detail-detail.ensures c.in-7.is c.in-10.is

pub returns-in-12 : goal.returns-in-12
returns-in-12 c = connects_or _ _ c.kind-kind.ensures c.detail-detail.ensures c.in-7.is c.in-12.is

pub returns-in-11 : goal.returns-in-11
returns-in-11 c = connects_arrow _ _ c.kind-kind.ensures c.detail-detail.ensures c.in-7.is c.in-11.is

pub returns-in_default-detail-2 : goal.returns-in_default-detail-2
returns-in_default-detail-2 c = connects_compared _ _ c.kind-kind.ensures c.detail-detail.ensures c.in-7.is
    (search) (search) (search)

pub returns-in_default : goal.returns-in_default
returns-in_default c = connects_other _ _ c.kind-kind.ensures c.detail-detail.ensures (search) (search)
