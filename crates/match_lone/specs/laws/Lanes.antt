-- Words are laid in the lanes one after the other, and stay. Assumes nothing.
use Rattle.std.specs.Prelude.{ℕ, ◌+◌, ◌*◌, ◌≤◌, ◌<◌, ◌≡◌, List, ◌⊎◌, length, get_or, set, Option, None, Some}
use Rattle.std.proofs.Common.{refl, ap, ◌∙◌, subst, sym as flip, inl, inr, eq-or-lt_of_le, arith, get_or-set_same, get_or-set_other}
use Rattle.grammar_table.specs.Table.{expression_count}
use Rattle.match_desk.specs.steps.Desk.{lanes_at, Desk}
use Rattle.match_lone.specs.declared.Round.{Round}
use Rattle.match_lone.specs.declared.Round.TheVariants.{Silent, Node}
use Rattle.match_lone.specs.steps.Lone.{Lone}
use Rattle.match_lone.specs.steps.Lanes.{Told, Tells, Laid, Behind, code_of}

-- codes
some-code : (r : Option Round) → 0 < code_of r
some-code None = omega arith
some-code (Some Silent) = omega arith
some-code (Some (Node r)) = omega arith

pub code-small : (t mem k : List ℕ) (b x : ℕ) (r : Option Round) → Lone t mem k b x r → code_of r ≤ 66
code-small t mem k b x None h = omega arith
code-small t mem k b x (Some Silent) h = omega arith
code-small t mem k b x (Some (Node r)) h = omega (arith, h.1.0)

code-same : (a b : Option Round) → code_of a ≡ code_of b → a ≡ b
code-same None None e = refl
code-same None (Some Silent) e = absurd (omega (arith, e))
code-same None (Some (Node r)) e = absurd (omega (arith, e))
code-same (Some Silent) None e = absurd (omega (arith, e))
code-same (Some Silent) (Some Silent) e = refl
code-same (Some Silent) (Some (Node r)) e = absurd (omega (arith, e))
code-same (Some (Node q)) None e = absurd (omega (arith, e))
code-same (Some (Node q)) (Some Silent) e = absurd (omega (arith, e))
code-same (Some (Node q)) (Some (Node r)) e = ap (λ (a : ℕ). Some (Node a)) (omega (arith, e))

module _ (t mem : List ℕ) where
  pub laid_none : (k : List ℕ) → Laid t mem k 0
  laid_none k = record { says = λ j b l. absurd (omega (arith, l)) }

  -- 0 says nothing
  pub tells_none : (b : ℕ) → Tells t mem b 0
  tells_none b x r l e = absurd (omega (arith, e, some-code r))

  pub tells-lone : (k : List ℕ) (b x w : ℕ) (r : Option Round) → Desk t k (expression_count t) → Lone t mem k b x r → w ≡ 8192 * x + code_of r → Tells t mem b w
  tells-lone k b x w r desk h is x' r' few e =
      (k, desk, subst (λ (a : ℕ). Lone t mem k b a r') same-part (subst (λ (a : Option Round). Lone t mem k b x a) (code-same r r' same_code) h))
    where
      same-part : x ≡ x'
      same-part = omega (arith, is, e, few, some-code r, some-code r', code-small t mem k b x r h)

      same_code : code_of r ≡ code_of r'
      same_code = omega (arith, is, e, few, some-code r, some-code r', code-small t mem k b x r h)

  module _ (k : List ℕ) (i : ℕ) (laid : Laid t mem k i) where
    -- fewer of them
    pub laid-few : (i' : ℕ) → i' ≤ i → Laid t mem k i'
    laid-few i' few = record { says = λ j b l m. laid.says j b (omega (arith, l, few)) m }

    pub laid-behind : (k' : List ℕ) → Behind k k' → Laid t mem k' i
    laid-behind k' h = record { says = λ j b l m x v few e. laid.says j b l m x v few (flip (h (lanes_at + (256 * j + b)) (omega arith)) ∙ e) }

    -- a word is stored behind them
    pub laid-aside : (a w : ℕ) → lanes_at + i ≤ a → Laid t mem (set k a w) i
    laid-aside a w past =
        record {
          says = λ j b l m x v few e.
              laid.says j b l m x v few (flip (get_or-set_other k a (lanes_at + (256 * j + b)) w 0 (λ q. omega (arith, q, l, past))) ∙ e);
        }

    -- one word more
    module _ (j₀ b₀ w : ℕ) (here : i ≡ 256 * j₀ + b₀) (byte : b₀ < 256) (inside : lanes_at + i < length k) (right : Tells t mem b₀ w) where
      by_place : (j b : ℕ) → (256 * j + b ≡ i) ⊎ (256 * j + b < i) → b < 256 → Tells t mem b (get_or (set k (lanes_at + i) w) (lanes_at + (256 * j + b)) 0)
      by_place j b (inr l) m = (laid-aside (lanes_at + i) w (omega arith)).says j b l m
      by_place j b (inl q) m = λ x v few e. subst (λ (a : ℕ). Told t mem a x v) (omega (arith, q, here, byte, m)) (right x v few (flip stored ∙ e))
        where
          stored : get_or (set k (lanes_at + i) w) (lanes_at + (256 * j + b)) 0 ≡ w
          stored = subst (λ (a : ℕ). get_or (set k (lanes_at + i) w) (lanes_at + a) 0 ≡ w) (flip q) (get_or-set_same k (lanes_at + i) w 0 inside)

      pub laid_more : Laid t mem (set k (lanes_at + i) w) (i + 1)
      laid_more = record { says = λ j b l m. by_place j b (eq-or-lt_of_le (omega (arith, l))) m }
