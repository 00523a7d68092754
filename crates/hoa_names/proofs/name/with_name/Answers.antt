-- `name::with_name` meets its contract.
use mathlib.Core.Path.{refl}
use native.Mathlib.Omega.{arith}
use Rattle.std.proofs.lemmas.Slice.{put_mid-paste}
use Rattle.hoa_names.proofs.Slots.{added}
use Rattle.hoa_names.proofs.name.with_name.Goals as goal

pub returns : goal.returns
returns c =
    λ ws h. added ws c.args.word.now c.args.names h c.requires.1 _ (put_mid-paste _ _ _ _ _ _ c.copy_from_slice.ensures.after (omega arith) refl)
