-- Conditions are decided one after another, so it is enough to say what is returned where a call is turned down and where it is accepted; and each of
-- document 01's conditions is decided.
use Rattle.std.specs.Prelude.{◌≡◌, refl, ◌≢◌, ◌⊎◌, Bool, true, false, List, [], ◌∷◌, ℕ, ◌^◌, leb, length, get_or}
use Rattle.std.proofs.Common.{sym, ap, ◌∙◌, subst, inl, inr, le-leb, leb-true}
use Rattle.std.proofs.Math.Logic.Dec.{and as dec_and, of_iff as dec_of_iff}
use Rattle.std.proofs.lemmas.Bool.{false≢true}
use Rattle.std.proofs.Math.Option.{Option, none, some, some_inj, some-ne-none}
use Rattle.std.proofs.Math.Decide.{ℕ_discrete, dec_le, dec_lt}
use Rattle.meaning.specs.Agreement.{Agree}
use Rattle.meaning.proofs.Decided.{decide_agree}
use Rattle.meaning.specs.Tests.{all}
use Rattle.meaning.specs.TestLaws.{all_at}
use Rattle.meaning.proofs.AllLaws.{all_of}
use Rattle.acceptance.specs.Masks.{OwnSets}
use Rattle.automaton.specs.declared.Automaton.{Automaton}
use Rattle.refusals.specs.declared.Code.{Code}
use Rattle.automaton.specs.Tests.{fits}
use Rattle.automaton.specs.Value.{Valid}
use Rattle.automaton.specs.View.{view}
use Rattle.automaton.specs.ViewLaws.{view_comparable}
use Rattle.automaton.specs.Meant.{fits_valid, valid_fits}
use Rattle.clause_sizes.specs.declared.Target.{Target}
use Rattle.clause_sizes.specs.Targets.{Dimensioned}
use Rattle.solver_text.specs.declared.Reader.{Reader}
use Rattle.solver_text.specs.Calls.{InRange}
use Rattle.demands.specs.Judgement.{Condition, TurnedDown, Accepted, Judged}
use Rattle.demands.specs.Conditions.{fault_code}

-- ---- a list of conditions

-- each is decided, where those before it are met
abbrev pub Decided : List Condition → Type 0
Decided [] = Unit {0}
Decided (x ∷ xs) = Dec x.met × (x.met → Decided xs)

pub decision : (xs : List Condition) → Decided xs → ((c : Code) × TurnedDown xs c) ⊎ Accepted xs
decision [] d = inr tt
decision (x ∷ xs) (yes h, d) = go (decision xs (d h))
  where
    go : ((c : Code) × TurnedDown xs c) ⊎ Accepted xs → ((c : Code) × TurnedDown (x ∷ xs) c) ⊎ Accepted (x ∷ xs)
    go (inl (c, t)) = inl (c, inr (h, t))
    go (inr a) = inr (h, a)
decision (x ∷ xs) (no h, d) = inl (x.otherwise, inl (h, refl))

pub some_none : {A P : Type 0} {c : A} → some c ≡ none → P
some_none {c} e = absurd (some-ne-none c e)

-- what is returned has one number
pub other_number : {P : Type 0} {said : Option Code} {b c : Code} {k : ℕ} → said ≡ some b → b.number ≢ k → said ≡ some c → c.number ≡ k → P
other_number e other f is = absurd (other (ap (λ (c : Code). c.number) (some_inj.0 (sym e ∙ f)) ∙ is))

-- at most one condition decides
turned_once : (xs : List Condition) (b c : Code) → TurnedDown xs b → TurnedDown xs c → b ≡ c
turned_once [] b c t u = absurd t
turned_once (x ∷ xs) b c (inl (n, e)) (inl (k, f)) = e ∙ sym f
turned_once (x ∷ xs) b c (inl (n, e)) (inr (h, u)) = absurd (n h)
turned_once (x ∷ xs) b c (inr (h, t)) (inl (k, f)) = absurd (k h)
turned_once (x ∷ xs) b c (inr (h, t)) (inr (g, u)) = turned_once xs b c t u

not_both : (xs : List Condition) (c : Code) → TurnedDown xs c → ¬ Accepted xs
not_both [] c t u = t
not_both (x ∷ xs) c (inl (n, e)) (h, u) = n h
not_both (x ∷ xs) c (inr (h, t)) (g, u) = not_both xs c t u

pub judged_refused : {xs : List Condition} {said : Option Code} {kept : Type 0} {c : Code} → TurnedDown xs c → said ≡ some c → kept → Judged xs said kept
judged_refused {xs} {said} {kept} {c} t e k = record {
  refused = λ b. (λ f. subst (TurnedDown xs) (some_inj.0 (sym e ∙ f)) t, λ u. e ∙ ap some (turned_once xs c b t u));
  accepted = (λ f. some_none (sym e ∙ f), λ u. absurd (not_both xs c t u));
  untouched = λ b f. k;
}

pub judged_accepted : {xs : List Condition} {said : Option Code} {kept : Type 0} → Accepted xs → said ≡ none → Judged xs said kept
judged_accepted {xs} t e = record {
  refused = λ c. (λ f. some_none (sym f ∙ e), λ u. absurd (not_both xs c u t));
  accepted = (λ f. t, λ u. e);
  untouched = λ c f. some_none (sym f ∙ e);
}

pub judged : {xs : List Condition} {said : Option Code} {kept : Type 0} → Decided xs
    → ((c : Code) → TurnedDown xs c → (said ≡ some c) × kept) → (Accepted xs → said ≡ none) → Judged xs said kept
judged {xs} {said} {kept} d refuses accepts = go (decision xs d)
  where
    go : ((c : Code) × TurnedDown xs c) ⊎ Accepted xs → Judged xs said kept
    go (inl (c, t)) = judged_refused t (refuses c t).0 (refuses c t).1
    go (inr t) = judged_accepted t (accepts t)

-- ---- document 01's conditions

pub fault_decided : (x : Option Code) → Dec (x ≡ none)
fault_decided none = yes refl
fault_decided (some c) = no (λ e. some_none e)

pub fault_is : (x : Option Code) (c : Code) → ¬ (x ≡ none) → c ≡ fault_code x → x ≡ some c
fault_is none c k e = absurd (k refl)
fault_is (some b) c k e = ap some (sym e)

pub truth_decided : (b : Bool) → Dec (b ≡ true)
truth_decided true = yes refl
truth_decided false = no false≢true

pub valid_decided : (a : Automaton) → Dec (Valid a)
valid_decided a =
    dec_of_iff
    (λ (((l, n), (d, m)), f). fits_valid a l n d m f, λ v. (((v.lengths_size, v.names_size), (v.destinations_size, v.marks_size)), valid_fits a v))
    (dec_and
    (dec_and (dec_and (ℕ_discrete (length a.lengths) 4) (ℕ_discrete (length a.names) 64))
    (dec_and (ℕ_discrete (length a.destinations) 256) (ℕ_discrete (length a.marks) 256)))
    (truth_decided (fits a)))

pub dimensioned_decided : (τ : Target) → Dec (Dimensioned τ)
dimensioned_decided τ =
    dec_of_iff (λ ((s, l), k). record { n_some = s; n_le = l; m_le = k }, λ d. ((d.n_some, d.n_le), d.m_le))
    (dec_and (dec_and (dec_le 1 τ.states) (dec_le τ.states 8)) (dec_le τ.sets 4))

pub own_sets_decided : (τ : Target) → Dec (OwnSets τ.acceptance τ.sets)
own_sets_decided τ = dec_lt τ.acceptance (2 ^ (2 ^ τ.sets))

pub in_range_decided : (r : Reader) → Dec (InRange r)
in_range_decided r =
    dec_of_iff (
      λ ((l, v), t). record { letters_le = l; value_le = v; named_le = λ i h. leb-true _ _ (all_at 5121 (λ i. leb (get_or r.named i 0) 2) t i h) },
      λ h. ((h.letters_le, h.value_le), all_of 5121 (λ i. leb (get_or r.named i 0) 2) (λ i g. le-leb _ _ (h.named_le i g))),
    )
    (dec_and (dec_and (dec_le r.scan.letters 13) (dec_le r.scan.value 2000000009)) (truth_decided (all 5121 (λ i. leb (get_or r.named i 0) 2))))

pub agree_decided : (a b : Automaton) → Valid a → Valid b → a.propositions ≡ b.propositions → Dec (Agree (view a) (view b))
agree_decided a b v w e = decide_agree (view_comparable v w e)
