-- The numbers of a line, without its end, and laws of them.
use Rattle.std.specs.Prelude.{◌≡◌, refl, List, [], ◌∷◌, ◌++◌, ℕ, ◌+◌, ◌<◌, length, get_or, take}
use Rattle.std.proofs.Common.{sym, ap, ◌∙◌, append_assoc, append-nil, add-one, take-suc}
use Rattle.decimal.specs.Decimal.{decimal}
use Rattle.console_report.specs.Lines.{row}

-- each after one space
abbrev pub spaced : List ℕ → List ℕ
spaced [] = []
spaced (n ∷ ns) = 32 ∷ (decimal n ++ spaced ns)

pub spaced_row : (ns : List ℕ) → spaced ns ++ (10 ∷ []) ≡ row ns
spaced_row [] = refl
spaced_row (n ∷ ns) = ap (λ w. 32 ∷ w) (append_assoc (decimal n) (spaced ns) (10 ∷ []) ∙ ap (λ w. decimal n ++ w) (spaced_row ns))

spaced_append : (u v : List ℕ) → spaced (u ++ v) ≡ spaced u ++ spaced v
spaced_append [] v = refl
spaced_append (n ∷ u) v = ap (λ w. 32 ∷ (decimal n ++ w)) (spaced_append u v) ∙ ap (λ w. 32 ∷ w) (sym (append_assoc (decimal n) (spaced u) (spaced v)))

pub spaced_more : (w : List ℕ) (i : ℕ) → i < length w → spaced (take i w) ++ (32 ∷ decimal (get_or w i 0)) ≡ spaced (take (i + 1) w)
spaced_more w i h =
    let e : take (i + 1) w ≡ take i w ++ (get_or w i 0 ∷ []) = rw (add-one, take-suc w i 0 h) in
    sym
    (ap spaced e ∙ spaced_append (take i w) (get_or w i 0 ∷ [])
    ∙ ap (λ u. spaced (take i w) ++ (32 ∷ u)) (append-nil (decimal (get_or w i 0))))
