-- Rules that are readable, written as text, are accepted and read as the same rules. Assumes nothing.
use Rattle.std.specs.Prelude.{ℕ, ◌*◌, ◌≤◌, ◌≡◌, Bool, false, length, ltb}
use Rattle.std.proofs.Math.Path.{sym, ap}
use Rattle.std.proofs.Common.{◌∙◌, subst, arith, le-ltb}
use mathlib.Core.List.{List, [], ◌∷◌}
use Rattle.std.proofs.Math.Option.{Option, none}
use Rattle.read_tokens.specs.declared.Mode.{Mode}
use Rattle.read_tokens.specs.Token.{Symbol, Tok, Lexeme}
use Rattle.read_tokens.specs.Tokens.{lexemes, toks_of, toks}
use Rattle.read_tokens.specs.Bounds.{text_bound, symbol_bound, terminal_bound, expression_bound}
use Rattle.grammar.specs.Exp.{Rule}
use Rattle.grammar.specs.Syntax.{Rules, tokens}
use Rattle.grammar.specs.Trees.{trees}
use Rattle.grammar.specs.Numbers.{left_sides, uses_of, symbols_of, terminals_of, expressions_of}
use Rattle.grammar.specs.Refusal.{refuse_if, refuse_at, ◌▸◌}
use Rattle.read_syntax.specs.Machine.{start, Judged, fine as free, judge}
use Rattle.read_syntax.specs.Reader.{ok, rules_p}
use Rattle.read_syntax.specs.Reading.{offence, second, unruled, lefts_in, too_many, rules_read, rules_from, rules_of, refuses_text}
use Rattle.read_syntax.proofs.laws.Bounds.{over_at, judged, one_answer}
use Rattle.read_syntax.proofs.laws.Reads.{reads-back, cost-enough}
use Rattle.grammar_table.specs.laws.Rows.{All}
use Rattle.read_grammar.specs.steps.Promises.{Sound}
use Rattle.read_grammar.specs.steps.Lay.{gathered}
use Rattle.read_grammar.specs.laws.Symbols.{uses, lefts-gathered, tells-lefts, tells-uses}
use Rattle.write_rules.specs.Writing.{text}
use Rattle.write_rules.proofs.laws.Pairs.{rules, tokens-rules, trees-rules}
use Rattle.write_rules.proofs.laws.Trip.{text-tokens}
use Rattle.write_rules.proofs.laws.Kept.{bones, yields, bones-r}
use Rattle.write_rules.proofs.laws.Depth.{peak}
use Rattle.write_rules.proofs.laws.Within.{Narrow, within-iff, bones-narrow}
use Rattle.write_back.specs.laws.Readable.{Distinct, Unreserved, Ruled, Readable}
use Rattle.write_back.specs.laws.Chain.{second_none, unruled-none, all-gathered}

-- the rules of a text are those of its concrete syntax
pub read_as : (m : Mode) (s : List ℕ) (g : Rules) → tokens g ≡ toks m s → rules_of m s ≡ trees g
unfolding toks rules_of rules_from
read_as m s g e = ap rules_read (subst (λ (l : List Tok). rules_p (5 * length l) l ≡ ok g []) e (reads-back g (5 * length (tokens g)) (cost-enough g)))

-- within all bounds
not-many : (m : Mode) (rs : List Rule) → length (symbols_of rs) ≤ symbol_bound → length (terminals_of rs) ≤ terminal_bound → expressions_of rs ≤ expression_bound m → too_many m rs ≡ none
unfolding too_many
not-many m rs a b c =
    ap (λ (x : Bool). refuse_if x 6 1 ▸ (refuse_if (ltb terminal_bound (length (terminals_of rs))) 6 2 ▸ refuse_if (ltb (expression_bound m) (expressions_of rs)) 6 3)) (le-ltb symbol_bound (length (symbols_of rs)) a)
    ∙ ap (λ (x : Bool). refuse_if x 6 2 ▸ refuse_if (ltb (expression_bound m) (expressions_of rs)) 6 3) (le-ltb terminal_bound (length (terminals_of rs)) b)
    ∙ ap (λ (x : Bool). refuse_if x 6 3) (le-ltb (expression_bound m) (expressions_of rs) c)

module _ (m : Mode) (r : Rule) (rs : List Rule) (h : Readable m (r ∷ rs)) where
  abbrev s : List ℕ
  s = text (r ∷ rs)

  abbrev xs : List Lexeme
  xs = lexemes m s

  abbrev g : Rules
  g = rules r rs

  has : tokens g ≡ toks m s
  has = sym (text-tokens m r rs h.fine)

  toks-are : toks_of xs ≡ tokens g
  unfolding toks
  toks-are = sym has

  pub again-rules : rules_of m s ≡ r ∷ rs
  again-rules = read_as m s g has ∙ trees-rules r rs

  not-over : (j : ℕ) → over_at m 0 xs j ≡ false
  not-over =
      (within-iff m xs).1 (
        omega (arith, ap (λ (l : List Tok). peak 0 l) (toks-are ∙ tokens-rules r rs), h.shallow),
        bones-narrow m (toks_of xs) (subst (λ (l : List Tok). Narrow m l) (sym (ap bones toks-are ∙ bones-r g ∙ ap yields (trees-rules r rs))) h.narrow),
      )

  bounded : judge m 0 start xs ≡ free
  bounded = one_answer m xs (judge m 0 start xs) free (judged m xs) ((g, sym toks-are), not-over)

  lefts-are : gathered false (toks_of xs) ≡ left_sides (r ∷ rs)
  lefts-are = ap (gathered false) toks-are ∙ tells-lefts g ∙ ap left_sides (trees-rules r rs)

  uses-are : uses (toks_of xs) ≡ uses_of (r ∷ rs)
  uses-are = ap uses toks-are ∙ tells-uses g ∙ ap uses_of (trees-rules r rs)

  once : second m [] xs ≡ none
  once =
      second_none m [] xs
      (all-gathered (Unreserved m) (toks_of xs) (subst (All (Unreserved m)) (sym lefts-are) h.free-lefts) (subst (All (Unreserved m)) (sym uses-are) h.free-uses))
      (subst (Distinct []) (sym lefts-are) h.once)

  ruled : unruled (lefts_in xs) xs ≡ none
  ruled =
      unruled-none (lefts_in xs) xs
      (subst (λ (l : List Symbol). All (Ruled l) (uses (toks_of xs))) (sym (lefts-gathered xs ∙ lefts-are)) (subst (All (Ruled (left_sides (r ∷ rs)))) (sym uses-are) h.ruled))

  -- the text is one that refusals 2 to 5 let through, with the same trees
  pub again-sound : Sound m s g
  again-sound = record { reads = has; bounded = bounded; once = once; ruled = ruled }

  few : too_many m (rules_of m s) ≡ none
  few = ap (too_many m) again-rules ∙ not-many m (r ∷ rs) h.few-symbols h.few-terminals h.few-expressions

  pub again-accepted : refuses_text m s ≡ none
  unfolding refuses_text rules_of
  again-accepted =
      ap (λ (b : Bool). refuse_if b 1 (text_bound m) ▸ (offence (length s) xs (judge m 0 start xs) ▸ (refuse_at 4 (second m [] xs) ▸ (refuse_at 5 (unruled (lefts_in xs) xs) ▸ too_many m (rules_of m s))))) (le-ltb (text_bound m) (length s) h.short)
      ∙ ap (λ (j : Judged). offence (length s) xs j ▸ (refuse_at 4 (second m [] xs) ▸ (refuse_at 5 (unruled (lefts_in xs) xs) ▸ too_many m (rules_of m s)))) bounded
      ∙ ap (λ (o : Option ℕ). refuse_at 4 o ▸ (refuse_at 5 (unruled (lefts_in xs) xs) ▸ too_many m (rules_of m s))) once
      ∙ ap (λ (o : Option ℕ). refuse_at 5 o ▸ too_many m (rules_of m s)) ruled
      ∙ few
