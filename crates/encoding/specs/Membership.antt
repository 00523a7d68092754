-- MEMBERSHIP: a clause is in the file if and only if it is one of the five kinds, with indices in range.
use Rattle.std.specs.Prelude.{◌≡◌, ◌↔◌, true, ℕ, ◌^◌, ◌<◌, ℤ}
use Rattle.std.proofs.Math.Logic.{⊎_elim}
use mathlib.Core.List.Memᴰ
use mathlib.Core.List.{List, Memᴰ}
use Rattle.meaning.specs.TestLaws.{and_true, and_left, and_right}
use Rattle.encoding.specs.Variables.{Task, Var, step, path, Present}
use Rattle.encoding.specs.Clauses.{totality, initial, successor, extension, closure, exactly_one, group₁, group₂, group₃, group₄, file}
use Rattle.encoding.specs.Loops.{each_in, each_elim, only_member}

pub data Listed (T : Task) (num : Var → ℕ) (c : List ℤ) : Type 0 where
  a_totality : (q l : ℕ) → q < T.n → l < T.reference.letters → c ≡ totality T num q l → Listed T num c
  the_initial : c ≡ initial T num → Listed T num c
  a_successor : (q p u l : ℕ) → Present T (step q l p) → u < T.reference.states → c ≡ successor T num q p u l → Listed T num c
  an_extension : (q p t u v l I J K : ℕ) → Present T (path q u p v I J) → Present T (step p l t) → K < 2 ^ T.m
      → T.kept u (T.reference.step v l) ≡ true → c ≡ extension T num q p t u v l I J K → Listed T num c
  a_closure : (q p v l I J K : ℕ) → Present T (step p l q) → v < T.reference.states → I < 2 ^ T.m → J < 2 ^ T.reference.sets → K < 2 ^ T.m
      → T.kept (T.reference.step v l) v ≡ true → exactly_one T v l I J K ≡ true → c ≡ closure T num q p v l I J K → Listed T num c

module _ (T : Task) (num : Var → ℕ) (c : List ℤ) where
  out₁ : Memᴰ c (group₁ T num) → Listed T num c
  unfolding group₁
  out₁ = each_elim λ q hq. each_elim λ l hl k. a_totality q l hq hl (Memᴰ.eq_of_singleton k)

  out₂ : Memᴰ c (group₂ T num) → Listed T num c
  unfolding group₂
  out₂ k = ⊎_elim the_initial
      (each_elim λ q hq. each_elim λ p hp. each_elim λ u hu. each_elim λ l hl k. a_successor q p u l (hq, hl, hp) hu (Memᴰ.eq_of_singleton k))
      (Memᴰ.cases_cons k)

  out₃ : Memᴰ c (group₃ T num) → Listed T num c
  unfolding group₃
  out₃ =
      each_elim λ q hq. each_elim λ p hp. each_elim λ t ht. each_elim λ u hu. each_elim λ v hv. each_elim λ l hl. each_elim λ I hI. each_elim λ J hJ. each_elim λ K hK k.
      let (b, e) = (only_member _ _).0 k in
      an_extension q p t u v l I J K (hq, hu, hp, hv, hI, hJ, and_left (T.kept u v) _ b) (hp, hl, ht) hK (and_right (T.kept u v) _ b) e

  out₄ : Memᴰ c (group₄ T num) → Listed T num c
  unfolding group₄
  out₄ =
      each_elim λ q hq. each_elim λ p hp. each_elim λ v hv. each_elim λ l hl. each_elim λ I hI. each_elim λ J hJ. each_elim λ K hK k.
      let (b, e) = (only_member _ _).0 k in
      let kept = T.kept (T.reference.step v l) v in
      a_closure q p v l I J K (hp, hl, hq) hv hI hJ hK (and_left kept _ b) (and_right kept _ b) e

  out : Memᴰ c (file T num) → Listed T num c
  unfolding file
  out k = ⊎_elim out₁ (λ k₁. ⊎_elim out₂ (λ k₂. ⊎_elim out₃ out₄ (Memᴰ.append_cases (group₃ T num) k₂)) (Memᴰ.append_cases (group₂ T num) k₁))
      (Memᴰ.append_cases (group₁ T num) k)

  in₁ : Memᴰ c (group₁ T num) → Memᴰ c (file T num)
  unfolding file
  in₁ k = Memᴰ.append_left _ k

  in₂ : Memᴰ c (group₂ T num) → Memᴰ c (file T num)
  unfolding file
  in₂ k = Memᴰ.append_right (group₁ T num) (Memᴰ.append_left _ k)

  in₃ : Memᴰ c (group₃ T num) → Memᴰ c (file T num)
  unfolding file
  in₃ k = Memᴰ.append_right (group₁ T num) (Memᴰ.append_right (group₂ T num) (Memᴰ.append_left _ k))

  in₄ : Memᴰ c (group₄ T num) → Memᴰ c (file T num)
  unfolding file
  in₄ k = Memᴰ.append_right (group₁ T num) (Memᴰ.append_right (group₂ T num) (Memᴰ.append_right (group₃ T num) k))

  into : Listed T num c → Memᴰ c (file T num)
  unfolding group₁ group₂ group₃ group₄
  into (a_totality q l hq hl e) = in₁ (each_in _ q hq (each_in _ l hl (Memᴰ.head e)))
  into (the_initial e) = in₂ (Memᴰ.head e)
  into (a_successor q p u l (hq, hl, hp) hu e) = in₂ (Memᴰ.tail (each_in _ q hq (each_in _ p hp (each_in _ u hu (each_in _ l hl (Memᴰ.head e))))))
  into (an_extension q p t u v l I J K (hq, hu, hp, hv, hI, hJ, b₁) (hp₂, hl, ht) hK b₂ e) =
      in₃ (each_in _ q hq (each_in _ p hp (each_in _ t ht (each_in _ u hu (each_in _ v hv (each_in _ l hl
      (each_in _ I hI (each_in _ J hJ (each_in _ K hK ((only_member _ _).1 (and_true b₁ b₂, e)))))))))))
  into (a_closure q p v l I J K (hp, hl, hq) hv hI hJ hK b₁ b₂ e) =
      in₄ (each_in _ q hq (each_in _ p hp (each_in _ v hv (each_in _ l hl
      (each_in _ I hI (each_in _ J hJ (each_in _ K hK ((only_member _ _).1 (and_true b₁ b₂, e)))))))))

  pub listed : Memᴰ c (file T num) ↔ Listed T num c
  listed = (out, into)
