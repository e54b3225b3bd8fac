-- There and back: the plain text of an accepted grammar, read again in plain mode, is accepted and has the same plain bodies; its own text is read as the
-- same rules. What demand 3 and `own-text-back` (Demands.antt) stand on. Assumes nothing.
use Rattle.std.specs.Prelude.{ℕ, ◌+◌, ◌*◌, ◌≤◌, ◌≡◌, get_or, ltb}
use Rattle.std.proofs.Math.Path.{refl, sym, ap, ap₂, subst}
use Rattle.std.proofs.Common.{◌∙◌, arith}
use mathlib.Core.List.{List}
use Rattle.std.proofs.Math.Option.{Option, none, some}
use Rattle.std.proofs.Math.ListN.{length}
use borrow.Author.Tests.{ltb-false}
use Rattle.read_tokens.specs.declared.Mode.{Mode}
use Rattle.read_tokens.specs.declared.Mode.TheVariants.{Plain}
use Rattle.read_tokens.specs.Bounds.{input_bound, text_bound, symbol_bound, terminal_bound, expression_bound, plain_bound}
use Rattle.read_tokens.specs.laws.Bytes.{Bytes}
use Rattle.grammar.specs.Exp.{Exp, Rule}
use Rattle.grammar.specs.Syntax.{Rules}
use Rattle.grammar.specs.Trees.{trees}
use Rattle.grammar.specs.Numbers.{Grammar, symbols_of, terminals_of, expressions_of, numbered}
use Rattle.grammar.specs.Refusal.{Refusal, refuse_if, ◌▸◌}
use Rattle.read_syntax.specs.Reading.{too_many, refuses_text, rules_of}
use Rattle.prepare.specs.steps.Scanned.{scanned}
use Rattle.prepare.specs.laws.Chain.{text-by-scan}
use Rattle.lake_rules.specs.Analysis.{analysis}
use Rattle.grammar_table.specs.laws.Parts.{total}
use Rattle.lake_plain.specs.Plain.{plain_rules, sizes, too_large}
use Rattle.lake_plain.specs.Calls.{order, looping}
use Rattle.lake_step_two.specs.steps.Stepped.{plain_of}
use Rattle.lake_step_two.proofs.laws.Bodies.{sizes-total}
use Rattle.read_grammar.specs.steps.Promises.{Sound}
use Rattle.match_cells.specs.Cells.{cells}
use Rattle.write_rules.specs.Writing.{text}
use Rattle.write_back.specs.laws.Own.{own-again}
use Rattle.write_back.specs.laws.Plain.{plain-again}
use Rattle.write_back.specs.laws.Same.{again-bodies, again-plain}
use Rattle.prepare.specs.Prepare.{Prepared, prepared, prepared_by, refuses}
use Rattle.gurkenmond.specs.laws.Verdicts.{if_none}
use Rattle.gurkenmond.specs.Calls.{refuses_input, match_by, match_after, match_of, write_by, write_own_of, write_plain_of}
use Rattle.prepare.specs.laws.Reads.{split, grammar-read}
use Rattle.demands.specs.Checks.{own_text, plain_text}

-- ── a match asks for bodies only ──
module _ (s cs ws : List ℕ) (p q : Prepared) (e : p.bodies ≡ q.bodies) where
  input-same : refuses_input p s cs ≡ refuses_input q s cs
  input-same = ap (λ (bs : List (Exp ℕ)). refuse_if (ltb input_bound (length s)) 9 input_bound ▸ refuse_if (ltb (length cs) (length bs * (length s + 1))) 10 (length bs * (length s + 1))) e

  after_same : (o : Option Refusal) → match_after o p s cs ws ≡ match_after o q s cs ws
  after_same none = ap (λ (bs : List (Exp ℕ)). match_by (get_or (cells bs (order bs) s cs) 0 0) bs s (cells bs (order bs) s cs) ws) e
  after_same (some r) = refl

-- ── a text with its rules ──
module _ (m : Mode) (t : List ℕ) (b : Bytes t) (g : Rules) (sound : Sound m t g) (few : too_many m (trees g) ≡ none) (large : too_large (plain_of (numbered (trees g))) ≡ none) where
  abbrev own : Grammar
  own = numbered (trees g)

  abbrev six-three : Option Refusal
  six-three = refuse_if (ltb (expression_bound m) (expressions_of (trees g))) 6 3

  abbrev six-two : Option Refusal
  six-two = refuse_if (ltb terminal_bound (length (terminals_of (trees g)))) 6 2

  six : (refuse_if (ltb symbol_bound (length (symbols_of (trees g)))) 6 1 ≡ none) × ((six-two ▸ six-three) ≡ none)
  unfolding too_many
  six = split (refuse_if (ltb symbol_bound (length (symbols_of (trees g)))) 6 1) (six-two ▸ six-three) few

  few-symbols : length own.names ≤ 64
  unfolding numbered symbol_bound
  few-symbols = ltb-false 64 (length (symbols_of (trees g))) (if_none (ltb symbol_bound (length (symbols_of (trees g)))) 6 1 six.0)

  few-terminals : length own.terminals ≤ 64
  unfolding numbered terminal_bound
  few-terminals = ltb-false 64 (length (terminals_of (trees g))) (if_none (ltb terminal_bound (length (terminals_of (trees g)))) 6 2 (split six-two six-three six.1).0)

  small : total (plain_of own) ≤ 1024
  unfolding plain_bound
  small = omega (arith, ltb-false 1024 (sizes (plain_of own)) (if_none (ltb plain_bound (sizes (plain_of own))) 7 1025 large), sizes-total (plain_of own))

  pub accepted-again : (refuses_text Plain (text (plain_rules own (analysis own))) ≡ none) × (rules_of Plain (text (plain_rules own (analysis own))) ≡ plain_rules own (analysis own))
  accepted-again = plain-again m t g b sound few-symbols few-terminals small

  in-expressions : expressions_of (trees g) ≤ expression_bound m
  in-expressions = ltb-false (expression_bound m) (expressions_of (trees g)) (if_none (ltb (expression_bound m) (expressions_of (trees g))) 6 3 (split six-two six-three six.1).1)

  pub own-accepted-again : length (text (trees g)) ≤ text_bound m → (refuses_text m (text (trees g)) ≡ none) × (rules_of m (text (trees g)) ≡ trees g)
  unfolding numbered symbol_bound terminal_bound
  own-accepted-again short = own-again m t g b sound few-symbols few-terminals in-expressions short

-- ── on the public definitions ──
module _ (m : Mode) (t : List ℕ) (b : Bytes t) (ok : refuses m t ≡ none) where
  abbrev n : Grammar
  n = numbered (rules_of m t)

  abbrev ps : List Rule
  ps = plain_rules n (analysis n)

  parts : (refuses_text m t ≡ none) × ((too_large (plain_of n) ▸ looping (plain_of n)) ≡ none)
  unfolding refuses prepared prepared_by
  parts = split (refuses_text m t) (too_large (plain_of n) ▸ looping (plain_of n)) ok

  few : too_many m (rules_of m t) ≡ none
  few = (split (scanned m t) (too_many m (rules_of m t)) (sym (text-by-scan m t) ∙ parts.0)).1

  grammar : (g : Rules) × Sound m t g × (trees g ≡ rules_of m t)
  grammar = grammar-read m t parts.0

  large : too_large (plain_of n) ≡ none
  large = (split (too_large (plain_of n)) (looping (plain_of n)) parts.1).0

  text-is : plain_text m t ≡ text ps
  unfolding prepared prepared_by
  text-is = refl

  read_again : (refuses_text Plain (text ps) ≡ none) × (rules_of Plain (text ps) ≡ ps)
  read_again = go grammar.0 grammar.1 (rules_of m t) grammar.2 few large
    where
      go : (g : Rules) → Sound m t g → (rs : List Rule) → trees g ≡ rs → too_many m rs ≡ none → too_large (plain_of (numbered rs)) ≡ none
          → (refuses_text Plain (text (plain_rules (numbered rs) (analysis (numbered rs)))) ≡ none)
          × (rules_of Plain (text (plain_rules (numbered rs) (analysis (numbered rs)))) ≡ plain_rules (numbered rs) (analysis (numbered rs)))
      go g sound rs e =
          subst (λ (rs : List Rule). too_many m rs ≡ none → too_large (plain_of (numbered rs)) ≡ none
          → (refuses_text Plain (text (plain_rules (numbered rs) (analysis (numbered rs)))) ≡ none)
          × (rules_of Plain (text (plain_rules (numbered rs) (analysis (numbered rs)))) ≡ plain_rules (numbered rs) (analysis (numbered rs)))) e
          (λ few large. accepted-again m t b g sound few large)

  same-bodies : plain_of (numbered ps) ≡ plain_of n
  same-bodies = subst (λ (rs : List Rule). plain_of (numbered (plain_rules (numbered rs) (analysis (numbered rs)))) ≡ plain_of (numbered rs)) grammar.2 (again-bodies m t grammar.0 b grammar.1)

  same-plain : plain_rules (numbered ps) (analysis (numbered ps)) ≡ ps
  same-plain =
      subst (λ (rs : List Rule). let q : List Rule = plain_rules (numbered rs) (analysis (numbered rs)) in plain_rules (numbered q) (analysis (numbered q)) ≡ q) grammar.2
      (again-plain m t grammar.0 b grammar.1)

  pub bodies-back : (prepared Plain (plain_text m t)).bodies ≡ (prepared m t).bodies
  unfolding prepared prepared_by
  bodies-back = ap (λ (rs : List Rule). plain_of (numbered rs)) read_again.1 ∙ same-bodies

  -- the plain text is accepted
  pub accepted-back : refuses Plain (plain_text m t) ≡ none
  unfolding refuses prepared prepared_by
  accepted-back =
      ap (λ (o : Option Refusal). o ▸ (too_large (prepared Plain (plain_text m t)).bodies ▸ looping (prepared Plain (plain_text m t)).bodies)) read_again.0
      ∙ ap (λ (bs : List (Exp ℕ)). too_large bs ▸ looping bs) bodies-back
      ∙ parts.1

  -- the match asks for bodies only
  pub match_back : (s cs ws : List ℕ) → match_of Plain (plain_text m t) s cs ws ≡ match_of m t s cs ws
  unfolding match_of
  match_back s cs ws =
      let p = prepared Plain (plain_text m t) in let q = prepared m t in
      ap₂ (λ (x y : Option Refusal). match_after (x ▸ y) p s cs ws) (accepted-back ∙ sym ok) (input-same s cs ws p q bodies-back)
      ∙ after_same s cs ws p q bodies-back (refuses m t ▸ refuses_input q s cs)

  -- written again, as it is or made plain once more, it is the same bytes
  pub plain_back : (out : List ℕ) → write_plain_of Plain (plain_text m t) out ≡ write_plain_of m t out
  unfolding write_plain_of prepared prepared_by
  plain_back out =
      ap₂ (λ (o : Option Refusal) (rs : List Rule). write_by o (text (plain_rules (numbered rs) (analysis (numbered rs)))) out) (accepted-back ∙ sym ok) read_again.1
      ∙ ap (λ (rs : List Rule). write_by (refuses m t) (text rs) out) same-plain

  pub own_back : (out : List ℕ) → write_own_of Plain (plain_text m t) out ≡ write_plain_of m t out
  unfolding write_own_of write_plain_of prepared prepared_by
  own_back out = ap₂ (λ (o : Option Refusal) (rs : List Rule). write_by o (text rs) out) (accepted-back ∙ sym ok) read_again.1

  -- ── the grammar's own text, within the bound of its mode: read again it is the same grammar, in both modes; so every call answers the same ──
  own_is : own_text m t ≡ text (rules_of m t)
  unfolding prepared prepared_by
  own_is = refl

  own_read : length (text (rules_of m t)) ≤ text_bound m → (refuses_text m (text (rules_of m t)) ≡ none) × (rules_of m (text (rules_of m t)) ≡ rules_of m t)
  own_read = go grammar.0 grammar.1 (rules_of m t) grammar.2 few large
    where
      go : (g : Rules) → Sound m t g → (rs : List Rule) → trees g ≡ rs → too_many m rs ≡ none → too_large (plain_of (numbered rs)) ≡ none
          → length (text rs) ≤ text_bound m → (refuses_text m (text rs) ≡ none) × (rules_of m (text rs) ≡ rs)
      go g sound rs e =
          subst (λ (rs : List Rule). too_many m rs ≡ none → too_large (plain_of (numbered rs)) ≡ none → length (text rs) ≤ text_bound m → (refuses_text m (text rs) ≡ none) × (rules_of m (text rs) ≡ rs)) e
          (λ few large short. own-accepted-again m t b g sound few large short)

  pub prepared-back : length (own_text m t) ≤ text_bound m → prepared m (own_text m t) ≡ prepared m t
  unfolding prepared
  prepared-back short = ap prepared_by (ap (rules_of m) own_is ∙ (own_read (subst (λ (w : List ℕ). length w ≤ text_bound m) own_is short)).1)

  pub own-accepted-back : length (own_text m t) ≤ text_bound m → refuses m (own_text m t) ≡ none
  unfolding refuses
  own-accepted-back short =
      let k = subst (λ (w : List ℕ). length w ≤ text_bound m) own_is short in
      ap₂ (λ (o : Option Refusal) (p : Prepared). o ▸ (too_large p.bodies ▸ looping p.bodies)) (ap (refuses_text m) own_is ∙ (own_read k).0) (prepared-back short)
      ∙ ap (λ (o : Option Refusal). o ▸ (too_large (prepared m t).bodies ▸ looping (prepared m t).bodies)) (sym parts.0)
      ∙ ok
