-- A REPETITION NEEDS NO BOUND: where each turn takes a token, it is one turn and then the repetition.
use Rattle.std.specs.Prelude.{◌≡◌, refl, ℕ, zero, suc, ◌<◌}
use Rattle.std.proofs.Common.{ap, ◌∙◌, not-suc-le-zero, arith}
use Rattle.refusals.specs.declared.Refusal.{Refusal}
use Rattle.hoa_text.specs.Tokens.{Stream}
use Rattle.hoa_text.specs.Grammar.{Result, gives, refuses, Parsed, then, Turn, again, done, turn, size, repeat_within, repeat, onward}

-- ---- what holds of every value that a result gives

abbrev pub Every : {A : Type 0} → (A → Type 0) → Result A → Type 0
Every P (gives a) = P a
Every P (refuses r) = Unit {0}

pub every_then : {A B : Type 0} (P : A → Stream → Type 0) (Q : B → Type 0) (x : Parsed A) (k : A → Stream → Result B)
    → Every (λ y. P y.0 y.1) x → ((a : A) (s : Stream) → P a s → Every Q (k a s)) → Every Q (then x k)
every_then P Q (gives y) k h g = g y.0 y.1 h
every_then P Q (refuses r) k h g = tt

-- whatever was given before
pub every_after : {A B : Type 0} (Q : B → Type 0) (x : Parsed A) (k : A → Stream → Result B) → ((a : A) (s : Stream) → Every Q (k a s)) → Every Q (then x k)
every_after Q (gives y) k h = h y.0 y.1
every_after Q (refuses r) k h = tt

-- ---- what holds of a turn: I where it goes on, Q where it ends

abbrev pub Both : {A B : Type 0} → (A → Stream → Type 0) → (B → Type 0) → Turn A B → Type 0
Both I Q (again a s) = I a s
Both I Q (done b) = Q b

pub every_both : {A B : Type 0} (I J : A → Stream → Type 0) (Q R : B → Type 0) (x : Result (Turn A B))
    → ((a : A) (s : Stream) → I a s → J a s) → ((b : B) → Q b → R b) → Every (Both I Q) x → Every (Both J R) x
every_both I J Q R (gives (again a s)) h g e = h a s e
every_both I J Q R (gives (done b)) h g e = g b e
every_both I J Q R (refuses r) h g e = tt

pub every_onward : {A B : Type 0} (I : A → Stream → Type 0) (Q : B → Type 0) (x : Parsed A) → Every (λ y. I y.0 y.1) x → Every (Both I Q) (onward x)
every_onward I Q x h = every_then I (Both I Q) x (λ a s. gives (again a s)) h (λ a s l. l)

every_turn : {A B : Type 0} (I : A → Stream → Type 0) (Q : B → Type 0) (x : Result (Turn A B)) (k : A → Stream → Result B)
    → Every (Both I Q) x → ((a : A) (s : Stream) → I a s → Every Q (k a s)) → Every Q (turn x k)
every_turn I Q (gives (again a s)) k h g = g a s h
every_turn I Q (gives (done b)) k h g = h
every_turn I Q (refuses r) k h g = tt

-- an invariant of the turns
pub every_repeat : {A B : Type 0} (f : A → Stream → Result (Turn A B)) (I : A → Stream → Type 0) (Q : B → Type 0)
    → ((a : A) (s : Stream) → I a s → Every (Both I Q) (f a s)) → (a : A) (s : Stream) → I a s → Every Q (repeat f a s)
every_repeat {A} f I Q step a s h = go (suc (size s)) a s h
  where
    go : (n : ℕ) (b : A) (u : Stream) → I b u → Every Q (repeat_within n f b u)
    go zero b u g = tt
    go (suc n) b u g = every_turn I Q (f b u) (λ c v. repeat_within n f c v) (step b u g) (λ c v l. go n c v l)

-- ---- a turn that goes on leaves fewer tokens

abbrev pub Fewer : {A B : Type 0} → ℕ → Turn A B → Type 0
Fewer n x = Both (λ a s. size s < n) (λ b. Unit {0}) x

abbrev pub Shrinks : {A B : Type 0} → (A → Stream → Result (Turn A B)) → Type 0
Shrinks {A} f = (a : A) (s : Stream) → Every (Fewer (size s)) (f a s)

turn_same : {A B : Type 0} (n : ℕ) (x : Result (Turn A B)) (k j : A → Stream → Result B)
    → Every (Fewer n) x → ((a : A) (s : Stream) → size s < n → k a s ≡ j a s) → turn x k ≡ turn x j
turn_same n (gives (again a s)) k j h g = g a s h
turn_same n (gives (done b)) k j h g = refl
turn_same n (refuses r) k j h g = refl

module _ {A B : Type 0} (f : A → Stream → Result (Turn A B)) (h : Shrinks f) where
  any_bound : (n m : ℕ) (a : A) (s : Stream) → size s < n → size s < m → repeat_within n f a s ≡ repeat_within m f a s
  any_bound zero m a s hn hm = absurd (not-suc-le-zero hn)
  any_bound (suc n) zero a s hn hm = absurd (not-suc-le-zero hm)
  any_bound (suc n) (suc m) a s hn hm =
      turn_same (size s) (f a s) (λ b u. repeat_within n f b u) (λ b u. repeat_within m f b u) (h a s) (λ b u g. any_bound n m b u (omega arith) (omega arith))

  -- every bound that the tokens do not reach gives the same
  pub repeat_within_lem : (n : ℕ) (a : A) (s : Stream) → size s < n → repeat_within n f a s ≡ repeat f a s
  repeat_within_lem n a s hn = any_bound n (suc (size s)) a s hn (omega arith)

  pub repeat_turn : (a : A) (s : Stream) → repeat f a s ≡ turn (f a s) (repeat f)
  repeat_turn a s = turn_same (size s) (f a s) (λ b u. repeat_within (size s) f b u) (repeat f) (h a s) (λ b u g. repeat_within_lem (size s) b u g)

  pub repeat_again : (a : A) (s : Stream) {b : A} {u : Stream} → f a s ≡ gives (again b u) → repeat f a s ≡ repeat f b u
  repeat_again a s e = repeat_turn a s ∙ ap (λ x. turn x (repeat f)) e

  pub repeat_done : (a : A) (s : Stream) {b : B} → f a s ≡ gives (done b) → repeat f a s ≡ gives b
  repeat_done a s e = repeat_turn a s ∙ ap (λ x. turn x (repeat f)) e

  pub repeat_refuses : (a : A) (s : Stream) {r : Refusal} → f a s ≡ refuses r → repeat f a s ≡ refuses r
  repeat_refuses a s e = repeat_turn a s ∙ ap (λ x. turn x (repeat f)) e
