-- The name of a symbol, from the table that holds an accepted grammar. Assumes nothing.
use Rattle.std.specs.Prelude.{ℕ, ◌≤◌, ◌<◌, ◌≡◌, Bool, true, false, not, List, [], ◌∷◌, length, get_or}
use Rattle.std.proofs.Math.Path.{sym}
use Rattle.std.proofs.Common.{ap, ap₂, ◌∙◌, subst, arith, length-append, lt-ltb, le-ltb, ltb-false}
use Rattle.std.proofs.Math.Option.{Option, none, some}
use Rattle.read_tokens.specs.declared.Mode.{Mode}
use Rattle.read_tokens.specs.declared.Mode.TheVariants.{Lake, Plain}
use Rattle.read_tokens.specs.Bounds.{name_bound}
use Rattle.read_tokens.specs.Token.{Symbol, name, lake}
use Rattle.read_tokens.specs.laws.Bytes.{Bytes}
use Rattle.grammar.specs.Exp.{Rule}
use Rattle.grammar.specs.Numbers.{numbered}
use Rattle.grammar.specs.Refusal.{Refusal, refusal, refuse_if, ◌▸◌}
use Rattle.grammar.specs.Trees.{trees}
use Rattle.grammar_table.specs.Holds.{Holds}
use Rattle.grammar_table.specs.Table.{symbol_count}
use Rattle.read_syntax.specs.Machine.{over}
use Rattle.read_syntax.specs.Reading.{rules_of}
use Rattle.write_rules.specs.Writing.{symbol_text}
use Rattle.write_leaves.specs.steps.Printed.{called}
use Rattle.write_text.specs.steps.Texts.{Paged}
use Rattle.write_text.specs.laws.Answers.{Answered, answered}
use Rattle.write_text.specs.laws.Called.{called_is}
use Rattle.write_text.specs.laws.Fit.{FitName, fit-name, name-bytes}
use Rattle.prepare.specs.declared.Counted.{Counted}
use Rattle.prepare.specs.declared.Verdict.TheVariants.{Refused as VerdictRefused}
use Rattle.prepare.specs.Prepare.{prepared, prepared_by, refuses}
use Rattle.prepare.specs.Reads.{is_refused, read_of}
use Rattle.prepare.specs.laws.Reads.{grammar-read, clear-text}
use Rattle.write_put.specs.declared.Written.{Written}
use Rattle.gurkenmond.specs.Calls.{SaysText, writing, write_by, is_symbol, symbol_name_of}
use Rattle.write_put.specs.steps.Puts.{not_written, Put}
use Rattle.match_ask.specs.laws.Asks.{symbols-of}
use Rattle.gurkenmond.specs.laws.Writes.{says-by, puts, refused-by}

-- no name is long
name-short : (m : Mode) (h : Symbol) → FitName m h → length (symbol_text h) ≤ 1048576
unfolding symbol_text over name_bound
name-short Lake (name w) f = omega (arith, ltb-false 32 (length w) f.1)
name-short Plain (name w) f = omega (arith, ltb-false 38 (length w) f.1)
name-short Lake (lake w) f = omega (arith, ltb-false 32 (length w) f.1, length-append w (62 ∷ []))
name-short Plain (lake w) f = absurd f.0

-- the name that a table has is the grammar's
module _ (m : Mode) (s : List ℕ) (b : Bytes s) (t : List ℕ) (k : ℕ) where
  abbrev Named : List Rule → Type 0
  Named rs =
      Holds t (numbered rs) → k < length (numbered rs).names
      → (called false t k ≡ get_or (numbered rs).names k (name [])) × (length (symbol_text (get_or (numbered rs).names k (name []))) ≤ 1048576)

  pub named : refuses m s ≡ none → Named (rules_of m s)
  named clear =
      let w = grammar-read m s (clear-text m s clear) in
      let x : Symbol = get_or (numbered (trees w.0)).names k (name []) in
      subst Named w.2
      (λ h l.
      let f : FitName m x = fit-name m s w.0 b w.1 k l in
      (called_is false t (numbered (trees w.0)) h k l (name-bytes m x f), name-short m x f))

module _ (m : Mode) (s : List ℕ) (k : ℕ) (old new : List ℕ) where
  abbrev called-so : Symbol
  called-so = get_or (prepared m s).grammar.names k (name [])

  pub name-refuses : (c : Counted) → c ≡ read_of m s → is_refused c.verdict ≡ true → new ≡ old → SaysText (not_written c.verdict) new (symbol_name_of m s k old)
  unfolding symbol_name_of
  name-refuses c q h same =
      refused-by m s old new c q h same (symbol_name_of m s k)
      (λ r e. sym (ap (λ (o : Option Refusal). write_by (o ▸ refuse_if (not (is_symbol (prepared m s) k)) 14 0) (symbol_text called-so) old) e))

  module _ (clear : refuses m s ≡ none) (t : List ℕ) (h : Holds t (numbered (rules_of m s))) (n : ℕ) (e : n ≡ symbol_count t) where
    by-symbol : (b : Bool) → is_symbol (prepared m s) k ≡ b → write_by (refuse_if (not b) 14 0) (symbol_text called-so) old ≡ symbol_name_of m s k old
    unfolding symbol_name_of
    by-symbol b q = sym (ap₂ (λ (o : Option Refusal) (c : Bool). write_by (o ▸ refuse_if (not c) 14 0) (symbol_text called-so) old) clear q)

    count : n ≡ length (prepared m s).grammar.names
    unfolding prepared prepared_by
    count = e ∙ symbols-of t (numbered (rules_of m s)) h

    pub name-past : n ≤ k → new ≡ old → SaysText (not_written (VerdictRefused 14 0)) new (symbol_name_of m s k old)
    name-past l same =
        says-by (not_written (VerdictRefused 14 0)) new (symbol_name_of m s k old)
        (ap (λ (o : List ℕ). writing 0 (some (refusal 14 0)) o) same ∙ by-symbol false (le-ltb k (length (prepared m s).grammar.names) (omega (arith, l, count))))

    module _ (b : Bytes s) (l : k < n) (r : Written) where
      fits : (j : ℕ) (f : Bool) → Paged (symbol_text (called false t k)) old new j f → Answered (symbol_text called-so) old new j f
      unfolding prepared prepared_by
      fits j f p =
          let w = named m s b t k clear h (omega (arith, l, count)) in
          answered (subst (λ (x : Symbol). Paged (symbol_text x) old new j f) w.0 p) w.1

      pub name-puts : Put (symbol_text (called false t k)) old new r → SaysText r new (symbol_name_of m s k old)
      name-puts p =
          says-by r new (symbol_name_of m s k old)
          (puts p fits ∙ by-symbol true (lt-ltb k (length (prepared m s).grammar.names) (omega (arith, l, count))))
