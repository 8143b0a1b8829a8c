-- Our own tables are read as the resolution and the index of the definitions, and are never refused (specs/Own.antt).
use Rattle.std.specs.Prelude.{Option}
use mathlib.Core.Path.{◌≡◌, fun_ext}
use mathlib.Core.Bool.{true}
use mathlib.Core.List.{List}
use Prim.Native.Nat.{ℕ}
use Rattle.semantics.specs.Resolution.{Tables, Resolution, own}
use Rattle.image_fields.specs.Image.{decode}
use Rattle.image.specs.Refusals.{image_refusal}
use Rattle.image.proofs.AcceptedLaws.{accepted}
use Rattle.index.proofs.ReadLaws.{own_read as index_read, own-fits as index-fits}
use Rattle.resolve_defs.proofs.DefinitionLaws.{defined-named}
use Rattle.given.specs.Bindings.{index_in, bindings_fit}
use Rattle.given.specs.Resolutions.{resolution_in, resolutions_fit}
use Rattle.given.proofs.ReadLaws.{own_read as resolution_read, own-fits as resolution-fits}
use Rattle.index.specs.Own.{own_resolutions, own_bindings, ReadBack}

same_tables : {i j : ℕ → Option ℕ} {r q : ℕ → Resolution} → i ≡ j → r ≡ q → ◌≡◌ {A = Tables} (record { index = i; resolution = r }) (record { index = j; resolution = q })
same_tables a b = λ k. record { index = a k; resolution = b k }

pub read_back : ReadBack
read_back s h =
    same_tables {i = index_in (own_bindings s)} {j = (own (decode s)).index} {r = resolution_in (own_resolutions s)} {q = (own (decode s)).resolution}
    (fun_ext (index_read s (accepted s h))) (fun_ext (resolution_read s (accepted s h).sized (defined-named s (accepted s h))))

pub own_fit : (s : List ℕ) → image_refusal s ≡ 0 → (resolutions_fit s (own_resolutions s) ≡ true) × (bindings_fit s (own_bindings s) ≡ true)
own_fit s h = (resolution-fits s (accepted s h).sized (defined-named s (accepted s h)), index-fits s (accepted s h))
