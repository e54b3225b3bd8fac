-- Lists that a count builds. Assumes nothing.
use Rattle.std.specs.Prelude.{ℕ, zero, suc, ◌+◌, ◌≤◌, ◌<◌, ◌≡◌, refl, ◌⊎◌, List, [], ◌∷◌, ◌++◌, length, get_or, set}
use Rattle.std.proofs.Common.{sym, ap, ◌∙◌, subst, inl, inr, ⊎_elim, append_assoc, arith, add-one, length-append, ext_get_or}
use Rattle.std.proofs.Math.Decide.{dec_lt, ℕ_discrete}
use Rattle.std.proofs.Math.ListN.{get_or-append, get_or-eq_default}
use Rattle.std.proofs.Math.Seq.{get_or-append_seam}
use Rattle.std.proofs.lemmas.List.{get_or_at}
use Rattle.base_facts.specs.laws.Numbers.{lt-or-ge, same?}
use Rattle.grammar_table.specs.Table.{up_to}

-- inside a list the default does not matter
pub get_d_any : {A : Type 0} (l : List A) (i : ℕ) (d e : A) → i < length l → get_or l i d ≡ get_or l i e
get_d_any [] i d e h = let z : ⊥ = omega arith in absurd z
get_d_any (x ∷ l) zero d e h = refl
get_d_any (x ∷ l) (suc i) d e h = get_d_any l i d e (omega arith)

pub up_to-long : {A : Type 0} (f : ℕ → A) (n : ℕ) → length (up_to f n) ≡ n
unfolding up_to
up_to-long f zero = refl
up_to-long f (suc n) = length-append (up_to f n) (f n ∷ []) ∙ (let h : length (up_to f n) ≡ n = up_to-long f n in omega arith)

pub up_to-at : {A : Type 0} (f : ℕ → A) (n i : ℕ) (d : A) → i < n → get_or (up_to f n) i d ≡ f i
unfolding up_to
up_to-at f zero i d h = let z : ⊥ = omega arith in absurd z
up_to-at f (suc n) i d h =
    ⊎_elim
    (λ p. get_or-append (up_to f n) (f n ∷ []) d i (let e : length (up_to f n) ≡ n = up_to-long f n in omega arith) ∙ up_to-at f n i d p)
    (λ p. let q : n ≡ i = omega arith in subst (λ (j : ℕ). get_or (up_to f n ++ (f n ∷ [])) j d ≡ f j) q (get_or_at (up_to f n) (f n) [] d n (up_to-long f n)))
    (lt-or-ge i n)

-- a list that holds at each index what f says
pub is-up_to : {A : Type 0} (d : A) (f : ℕ → A) (l : List A) (n : ℕ) → length l ≡ n → ((i : ℕ) → i < n → get_or l i d ≡ f i) → l ≡ up_to f n
is-up_to d f l n e h =
    ext_get_or d l (up_to f n) (e ∙ sym (up_to-long f n))
    (λ i p. let q : i < n = omega arith in h i q ∙ sym (up_to-at f n i d q))

pub up_to-same : {A : Type 0} (d : A) (f g : ℕ → A) (n : ℕ) → ((i : ℕ) → i < n → f i ≡ g i) → up_to f n ≡ up_to g n
up_to-same d f g n h = is-up_to d g (up_to f n) n (up_to-long f n) (λ i p. up_to-at f n i d p ∙ h i p)
