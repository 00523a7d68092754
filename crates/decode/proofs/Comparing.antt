-- The decoder's answer by the comparison's.
use Rattle.std.specs.Prelude.{Result, Ok, Err}
use mathlib.Core.Path.{◌≡◌, sym, ap, ◌∙◌}
use mathlib.Core.List.{List}
use Prim.Native.Nat.{ℕ}
use lib.ListN.{length}
use Rattle.automaton.specs.declared.Automaton.{Automaton}
use Rattle.refusals.specs.declared.Refusal.{Refusal}
use Rattle.refusals.specs.declared.Refusal.TheVariants.{Differ}
use Rattle.compare.specs.Compared.{Compared, Shown, Room}
use Rattle.decode.specs.declared.Decoded.{Decoded}
use Rattle.decode.specs.declared.Decoded.TheVariants.{Table}
use Rattle.decode.specs.Answers.{returned, Differs, ByComparison}
use Rattle.decode.specs.Ready.{Comparable}

-- the comparison of C with a, with the buffers before and after
module _ {a C : Automaton} {p p' l l' : List ℕ} {y : Result (Unit {0}) Refusal} {x : Result Decoded Refusal} (v : Comparable C a) (r : Room p l) (c : Compared C a p p' l l' y) where
  pub same_found : {u : Unit {0}} → y ≡ Ok u → x ≡ Ok (Table C) → ByComparison p p' l l' x a C
  same_found e g = record {
    same = λ agree. let t = c.same r.prefix_room_fits r.loop_room_fits v.valid_a v.valid_b v.same_propositions agree in (g, t.1, t.2, ap returned g);
    differ = λ no. let s = (c.differ r.prefix_room_fits r.loop_room_fits v.valid_a v.valid_b v.same_propositions no).says in cc;
  }

  pub differ_refused : (f : Refusal) → y ≡ Err f → x ≡ Err f → ByComparison p p' l l' x a C
  differ_refused f e g = record {
    same = λ agree. let s = (c.same r.prefix_room_fits r.loop_room_fits v.valid_a v.valid_b v.same_propositions agree).0 in cc;
    differ = λ no. shows (c.differ r.prefix_room_fits r.loop_room_fits v.valid_a v.valid_b v.same_propositions no);
  }
    where
      shows : Shown C a p p' l l' y → Differs p p' l l' x a C
      shows s =
          let d : f ≡ Differ (length s.x) (length s.y) = let y = sym e ∙ s.says in cc in
          let is : x ≡ Err (Differ (length s.x) (length s.y)) = g ∙ ap Err d in
          record { comparison = y; shown = s; says = is; number = ap returned is }
