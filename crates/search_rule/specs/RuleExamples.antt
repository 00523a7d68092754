-- EXAMPLES of the rule, by computation.
use Rattle.std.specs.Prelude.{◌≡◌, refl, true, false, ℕ}
use Rattle.automaton.specs.declared.Automaton.{Automaton}
use Rattle.search_rule.specs.declared.Search.{Search}
use Rattle.search_rule.specs.Rule.{fresh, found, none}

-- n states and m sets are asked for
abbrev Asks : Search → ℕ → ℕ → Type 0
Asks s n m = (s.n ≡ n) × (s.m ≡ m) × (s.finished ≡ false)

-- it is finished, n states and m sets were asked for last
abbrev Ends : Search → ℕ → ℕ → Type 0
Ends s n m = (s.n ≡ n) × (s.m ≡ m) × (s.finished ≡ true)

-- Source document 004, figure 5, from the table with 4 states and 1 set: no smaller one with 1 set, 2 states with 2, as many with 3, 1 with 4
module _ (a t u v : Automaton) where
  abbrev with_2 : Search
  with_2 = none (fresh a)

  abbrev with_3 : Search
  with_3 = none (found u (found t with_2))

  abbrev with_4 : Search
  with_4 = none with_3

  figure_5 : a.states ≡ 4 → a.sets ≡ 1 → u.states ≡ 2
      → Asks (fresh a) 3 1 × Asks with_2 3 2 × Asks (found t with_2) 2 2 × Asks (found u (found t with_2)) 1 2 × Asks with_3 1 3 × Asks with_4 1 4
      × Ends (found v with_4) 0 4
  figure_5 r s two =
      rw (r, s, two) ((refl, refl, refl), (refl, refl, refl), (refl, refl, refl), (refl, refl, refl), (refl, refl, refl), (refl, refl, refl), (refl, refl, refl))

-- with more than 9 states 8 are asked for at every count
eight_again : (a : Automaton) → a.states ≡ 12 → a.sets ≡ 2 → Asks (fresh a) 8 2 × Asks (none (fresh a)) 8 3 × Asks (none (none (fresh a))) 8 4
eight_again a r s = rw (r, s) ((refl, refl, refl), (refl, refl, refl), (refl, refl, refl))

-- a reference with 4 sets: one "none" ends it
four_sets : (a : Automaton) → a.states ≡ 3 → a.sets ≡ 4 → Asks (fresh a) 2 4 × Ends (none (fresh a)) 2 4
four_sets a r s = rw (r, s) ((refl, refl, refl), (refl, refl, refl))
