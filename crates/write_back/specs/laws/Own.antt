-- The own text of an accepted grammar, within the bound, is accepted and read as the same rules, in both modes. Assumes nothing.
use Rattle.std.specs.Prelude.{ℕ, ◌≤◌, ◌<◌, ◌≡◌, Bool, false, length}
use Rattle.std.proofs.Math.Path.{sym, ap}
use Rattle.std.proofs.Common.{◌∙◌, subst, length-append, lt-ltb}
use mathlib.Core.List.{List, [], ◌∷◌}
use Rattle.std.proofs.Math.Option.{none, some}
use native.Mathlib.Omega.{arith}
use Rattle.read_tokens.specs.declared.Mode.{Mode}
use Rattle.read_tokens.specs.Token.{Symbol, Tok}
use Rattle.read_tokens.specs.Tokens.{lexemes, toks_of, toks}
use Rattle.read_tokens.specs.Bounds.{text_bound, open_bound, symbol_bound, terminal_bound, expression_bound}
use Rattle.read_tokens.specs.laws.Bytes.{Bytes}
use Rattle.grammar.specs.Exp.{Rule}
use Rattle.grammar.specs.Syntax.{Rules, rule, more, tokens}
use Rattle.grammar.specs.Trees.{tree_c, ruled, trees}
use Rattle.grammar.specs.Numbers.{left_sides, uses_of, symbols_of, terminals_of, expressions_of}
use Rattle.grammar.specs.Refusal.{refusal, refuse_if, refuse_at, ◌▸◌}
use Rattle.read_syntax.specs.Machine.{start, judge}
use Rattle.read_syntax.specs.Reading.{offence, second, unruled, lefts_in, too_many, rules_from, rules_of, refuses_text}
use Rattle.grammar_table.specs.laws.Rows.{All}
use Rattle.read_grammar.specs.steps.Promises.{Sound}
use Rattle.read_grammar.specs.steps.Lay.{gathered}
use Rattle.read_grammar.specs.laws.Symbols.{uses, lefts-gathered, tells-lefts, tells-uses}
use Rattle.write_rules.specs.Writing.{text}
use Rattle.write_rules.proofs.laws.Pairs.{written}
use Rattle.write_rules.proofs.laws.Trip.{text-written}
use Rattle.write_rules.proofs.laws.Kept.{no_deeper}
use Rattle.write_rules.proofs.laws.Depth.{peak}
use Rattle.write_rules.proofs.laws.Within.{within-iff}
use Rattle.write_text.specs.laws.Fit.{is-grammar, fine-rules, none_over, narrow-rules}
use Rattle.write_back.specs.laws.Readable.{Distinct, Unreserved, Ruled, Readable}
use Rattle.write_back.specs.laws.Chain.{second-says, unruled-says, of-gathered}
use Rattle.write_back.specs.laws.Reads.{again-rules, again-accepted}

-- "one or more rules"
pub some-rules : (g : Rules) → 0 < length (trees g)
unfolding trees
some-rules (rule h c) = omega arith
some-rules (more r h c) = omega (arith, length-append (trees r) (ruled h (tree_c c) ∷ []))

-- readable rules, however they are given
pub again : (m : Mode) (rs : List Rule) → 0 < length rs → Readable m rs → (refuses_text m (text rs) ≡ none) × (rules_of m (text rs) ≡ rs)
again m [] l h = absurd (omega arith)
again m (r ∷ rs) l h = (again-accepted m r rs h, again-rules m r rs h)

module _ (m : Mode) (s : List ℕ) (g : Rules) (b : Bytes s) (sound : Sound m s g) where
  toks-are : toks_of (lexemes m s) ≡ tokens g
  unfolding toks
  toks-are = sym sound.reads

  lefts-are : gathered false (toks_of (lexemes m s)) ≡ left_sides (trees g)
  lefts-are = ap (gathered false) toks-are ∙ tells-lefts g

  uses-are : uses (toks_of (lexemes m s)) ≡ uses_of (trees g)
  uses-are = ap uses toks-are ∙ tells-uses g

  -- what refusals 4 and 5 have seen to
  pub left-once : Distinct [] (left_sides (trees g))
  left-once = subst (Distinct []) lefts-are (second-says m [] (lexemes m s) sound.once).1

  free_all : All (Unreserved m) (gathered false (toks_of (lexemes m s))) × All (Unreserved m) (uses (toks_of (lexemes m s)))
  free_all = of-gathered (Unreserved m) (toks_of (lexemes m s)) (second-says m [] (lexemes m s) sound.once).0

  pub lefts-free : All (Unreserved m) (left_sides (trees g))
  lefts-free = subst (All (Unreserved m)) lefts-are free_all.0

  pub uses-free : All (Unreserved m) (uses_of (trees g))
  uses-free = subst (All (Unreserved m)) uses-are free_all.1

  uses-ruled : All (Ruled (left_sides (trees g))) (uses_of (trees g))
  uses-ruled =
      subst (λ (l : List Symbol). All (Ruled l) (uses_of (trees g))) (lefts-gathered (lexemes m s) ∙ lefts-are)
      (subst (All (Ruled (lefts_in (lexemes m s)))) uses-are (unruled-says (lefts_in (lexemes m s)) (lexemes m s) sound.ruled))

  pub no-deep : peak 0 (written (trees g)) ≤ open_bound m
  unfolding toks
  no-deep =
      omega (
        arith,
        no_deeper m s (trees g) b (is-grammar m s g b sound),
        ((within-iff m (lexemes m s)).0 (none_over m s g b sound)).0,
        ap (λ (l : List Tok). peak 0 l) (text-written m (trees g) (fine-rules m s g b sound)),
      )

  module _ (few-s : length (symbols_of (trees g)) ≤ symbol_bound) (few-t : length (terminals_of (trees g)) ≤ terminal_bound) (few-e : expressions_of (trees g) ≤ expression_bound m) where
    pub own-again : length (text (trees g)) ≤ text_bound m → (refuses_text m (text (trees g)) ≡ none) × (rules_of m (text (trees g)) ≡ trees g)
    own-again short =
        again m (trees g) (some-rules g)
        (record {
          fine = fine-rules m s g b sound;
          short = short;
          narrow = narrow-rules m s g b sound;
          shallow = no-deep;
          once = left-once;
          free-lefts = lefts-free;
          free-uses = uses-free;
          ruled = uses-ruled;
          few-symbols = few-s;
          few-terminals = few-t;
          few-expressions = few-e;
        })

-- "A lake grammar's own text may pass 16,384 bytes; reading it then refuses 1"
pub too-long-again : (m : Mode) (w : List ℕ) → text_bound m < length w → refuses_text m w ≡ some (refusal 1 (text_bound m))
unfolding refuses_text
too-long-again m w l =
    let xs = lexemes m w in
    ap (λ (b : Bool). refuse_if b 1 (text_bound m) ▸ (offence (length w) xs (judge m 0 start xs) ▸ (refuse_at 4 (second m [] xs) ▸ (refuse_at 5 (unruled (lefts_in xs) xs) ▸ too_many m (rules_from (toks_of xs)))))) (lt-ltb (text_bound m) (length w) l)
