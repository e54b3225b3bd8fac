-- A body written by its parts. Assumes nothing.
use Rattle.std.specs.Prelude.{ℕ, zero, suc, ◌+◌, ◌-◌, ◌*◌, ◌≤◌, ◌<◌, ◌≡◌, Bool, true, false, length, get_or}
use Rattle.std.proofs.Math.Path.{refl, ap}
use Rattle.std.proofs.Common.{sym, ap₂, ◌∙◌, subst}
use mathlib.Core.List.{List, [], ◌∷◌, ◌++◌, append-nil}
use Rattle.std.proofs.Math.Option.{Option, none, some}
use native.Mathlib.Omega.{arith}
use Rattle.read_tokens.specs.Token.{Leaf, any}
use Rattle.grammar.specs.Exp.{Exp, ter, alt, size}
use Rattle.grammar.specs.Lakes.{step_one}
use Rattle.grammar.specs.Parts.{Part, terminal, choice, last, parts_of}
use Rattle.grammar_table.specs.Table.{table_words, part_by, part_in}
use Rattle.lake_step_one.specs.Intermediate.{intermediate_by}
use Rattle.grammar_table.specs.laws.Parts.{size-pos, parts-long}
use Rattle.lake_step_one.specs.steps.Runs.{stored, Grew, nil, PartsRun, CopiedRun, BodyAt, body_parts, CopiedBody, BodyTo, EndWord, ends_at}
use Rattle.lake_step_one.proofs.laws.Stores.{grew_none, grew-one, grew-two, grew-as}

-- `.`, terminal 0
pub dot : (number : Leaf → ℕ) (mid b : List ℕ) (m : ℕ) → length mid ≡ table_words → number any ≡ 0 → b ≡ stored mid m 0 0 0 → Grew mid m (parts_of number m (ter any)) b (m + 1)
unfolding parts_of part_by
dot number mid b m w z e = subst (λ (x : List ℕ). Grew mid m (terminal (number any) ∷ []) x (m + 1)) (sym e) (grew-one mid m 0 0 0 (terminal (number any)) w (λ h. ap terminal (sym z)))

-- a body's run, copied
pub run : (number : Leaf → ℕ) (t mid b : List ℕ) (a k m j : ℕ) (e : Exp ℕ) → length mid ≡ table_words → j ≡ a + size e → k ≡ j - a → PartsRun number t a e → CopiedRun t a k mid m b → Grew mid m
    (parts_of number m e) b (m + k)
run number t mid b a k m j e w p q h c = c number e (omega arith) w h

-- `o / W` behind o and W
pub both : (number : Leaf → ℕ) (mid c d f : List ℕ) (m k p x y : ℕ) (o W : Exp ℕ) → Grew mid m (parts_of number m o) c (m + k) → k ≡ size o → Grew c (m + k) (parts_of number (m + k) W) d p
    → length mid ≡ table_words
    → (m + k - 1 < 4294967296 → x ≡ m + k - 1) → (p - 1 < 4294967296 → y ≡ p - 1) → f ≡ stored d p 3 x y → Grew mid m (parts_of number m (alt o W)) f (p + 1)
unfolding parts_of part_by
both number mid c d f m k p x y o W one kk two l hx hy s =
    let pp : p ≡ m + k + size W = two.count ∙ ap (λ (i : ℕ). m + k + i) (parts-long number W (m + k)) in
    let C = choice (last m o) (last (m + size o) W) in
    let three : Grew d p (C ∷ []) f (p + 1)
    = subst (λ (v : List ℕ). Grew d p (C ∷ []) v (p + 1)) (sym s) (grew-one d p 3 x y C (two.long ∙ one.long ∙ l)
    (λ v. ap₂ choice (hx (omega arith) ∙ (let r : m + k - 1 ≡ m + size o - 1 = omega arith in r)) (hy (omega arith) ∙ (let r : p - 1 ≡ m + size o + size W - 1 = omega arith in r)))) in
    grew-as (grew-two mid c f m (m + k) (p + 1) (parts_of number m o) (parts_of number (m + k) W ++ (C ∷ [])) one (grew-two c d f (m + k) p (p + 1) (parts_of number (m + k) W) (C ∷ []) two three))
    (ap (λ (i : ℕ). parts_of number m o ++ (parts_of number i W ++ (C ∷ []))) (let r : m + k ≡ m + size o = omega arith in r)) refl

-- a body, if there is one
module _ (t mid : List ℕ) (a b m : ℕ) where
  pub body-none : b ≡ 0 → CopiedBody t a b mid m mid m
  body-none e number none l q = grew_none mid m
  body-none e number (some o) l q = let n : ⊥ = omega (arith, q.0, size-pos o) in absurd n

  pub body-some : (c : List ℕ) (k : ℕ) → (b ≡ 0 → ⊥) → k ≡ b - a → CopiedRun t a k mid m c → CopiedBody t a b mid m c (m + k)
  body-some c k n e g number none l q = absurd (n q)
  body-some c k n e g number (some o) l q = run number t mid c a k m b o l q.0 e q.1 g

module _ (t mid : List ℕ) (a b wa wb m : ℕ) where
  -- one of the two bodies, or none
  module _ (c d : List ℕ) (q p : ℕ) (one : CopiedBody t a b mid m c q) (two : CopiedBody t wa wb c q d p) where
    pub lake-none : b ≡ 0 → BodyTo t true a b wa wb mid m d p
    unfolding step_one
    lake-none e number none none l u v = grew-two mid c d m q p [] [] (one number none l v) (two number none ((one number none l v).long ∙ l) u)
    lake-none e number (some w) none l u v =
        let g : Grew mid m [] c q = one number none l v in
        grew-as (grew-two mid c d m q p [] (parts_of number q w) g (two number (some w) (g.long ∙ l) u)) (ap (λ (i : ℕ). parts_of number i w) (let z : q ≡ m = omega (arith, g.count) in z)) refl
    lake-none e number w (some o) l u v = let n : ⊥ = omega (arith, v.0, size-pos o) in absurd n

    pub lake-dry : wb ≡ 0 → BodyTo t true a b wa wb mid m d p
    unfolding step_one
    lake-dry e number none none l u v = grew-two mid c d m q p [] [] (one number none l v) (two number none ((one number none l v).long ∙ l) u)
    lake-dry e number none (some o) l u v =
        let g : Grew mid m (parts_of number m o) c q = one number (some o) l v in
        grew-as (grew-two mid c d m q p (parts_of number m o) [] g (two number none (g.long ∙ l) u)) (append-nil (parts_of number m o)) refl
    lake-dry e number (some w) o l u v = let n : ⊥ = omega (arith, u.0, size-pos w) in absurd n

    -- `o / w`
    pub lake-both : (f : List ℕ) (x y : ℕ) → (b ≡ 0 → ⊥) → (wb ≡ 0 → ⊥) → (q - 1 < 4294967296 → x ≡ q - 1) → (p - 1 < 4294967296 → y ≡ p - 1) → f ≡ stored d p 3 x y
        → BodyTo t true a b wa wb mid m f (p + 1)
    unfolding step_one
    lake-both f x y nb nw hx hy s number w none l u v = absurd (nb v)
    lake-both f x y nb nw hx hy s number none (some o) l u v = absurd (nw u)
    lake-both f x y nb nw hx hy s number (some w) (some o) l u v =
        let g : Grew mid m (parts_of number m o) c q = one number (some o) l v in
        let e : q ≡ m + size o = g.count ∙ ap (λ (i : ℕ). m + i) (parts-long number o m) in
        both number mid c d f m (size o) p x y o w
        (subst (λ (i : ℕ). Grew mid m (parts_of number m o) c i) e g) refl
        (subst (λ (i : ℕ). Grew c i (parts_of number i w) d p) e (two number (some w) (g.long ∙ l) u)) l (λ h. hx (omega arith) ∙ (let z : q - 1 ≡ m + size o - 1 = omega arith in z)) hy s

  pub plain_body : (c : List ℕ) (u : ℕ) → CopiedBody t a b mid m c u → BodyTo t false a b wa wb mid m c u
  plain_body c u h number w o l p q = h number o l q

-- the word of a body by its end
pub end-word : (number : Leaf → ℕ) (mid one : List ℕ) (m p v : ℕ) (o : Option (Exp ℕ)) → Grew mid m (body_parts number m o) one p → EndWord m p v → p < 4294967296 → v ≡ ends_at o p
end-word number mid one m p v none g h l = h.0 (omega (arith, g.count))
end-word number mid one m p v (some e) g h l = h.1 (λ q. let z : ⊥ = omega (arith, g.count, parts-long number e m, size-pos e) in z) l
