-- The answers of `sets` and `cannot_skip`, from what a prepared grammar holds. Assumes nothing.
use Rattle.std.specs.Prelude.{ℕ, ◌≤◌, ◌<◌, ◌≡◌, Bool, not, ◌&&◌, List, length}
use Rattle.std.proofs.Math.Path.{sym, ap}
use Rattle.std.proofs.Common.{◌∙◌, arith}
use Rattle.std.proofs.Math.Bool.{true, false}
use Rattle.std.proofs.Math.Option.{Option, none}
use Rattle.std.proofs.Math.Dec.{leb}
use borrow.Author.Tests.{le-leb, lt-leb}
use Rattle.read_tokens.specs.declared.Mode.{Mode}
use Rattle.grammar.specs.Numbers.{Grammar, numbered}
use Rattle.grammar.specs.Parts.{Part}
use Rattle.grammar_table.specs.Table.{part_in, parts_in, symbol_count, expression_count}
use Rattle.grammar_table.specs.Holds.{Holds}
use Rattle.grammar.specs.Refusal.{Refusal, refuse_if, ◌▸◌}
use Rattle.read_syntax.specs.Reading.{rules_of}
use Rattle.lake_sets.specs.declared.Sets.{Sets}
use Rattle.lake_step_one.specs.Intermediate.{intermediate}
use Rattle.lake_rules.specs.Beginning.{marked, marks_by, right_empty, beginnings}
use Rattle.lake_rules.specs.Analysis.{Analysis, analysis_in, analysis, analysed, is_expression}
use Rattle.lake_sets.specs.SetsAt.{sets_at}
use Rattle.lake_step_one.specs.Proper.{middle}
use Rattle.lake_rules.specs.laws.Begins.{begins-long}
use Rattle.lake_analysis.specs.steps.Lent.{SetsOf as SetsPromise, CannotSkip}
use Rattle.prepare.specs.declared.Counted.{Counted}
use Rattle.prepare.specs.declared.Verdict.{Verdict}
use Rattle.prepare.specs.declared.Verdict.TheVariants.{Accepted, Refused as VerdictRefused}
use Rattle.prepare.specs.Prepare.{prepared, prepared_by, refuses}
use Rattle.prepare.specs.Reads.{verdict_of, is_refused, read_of}
use Rattle.prepare.specs.steps.Loads.{Stands}
use Rattle.prepare.specs.laws.Reads.{clear-good}
use Rattle.gurkenmond.specs.declared.SetsOf.{SetsOf}
use Rattle.gurkenmond.specs.laws.Verdicts.{handed}
use Rattle.gurkenmond.specs.Calls.{no_sets, sets_by, sets_of, lakes_by, cannot_skip_of}

abbrev pub refused_sets : Verdict → SetsOf
refused_sets v = record { sets = no_sets; rounds = 0; verdict = v }

module _ (m : Mode) (s : List ℕ) where
  abbrev a : Analysis
  a = (prepared m s).analysis

  pub sets-refused : (c : Counted) (e : ℕ) → c ≡ read_of m s → is_refused c.verdict ≡ true → refused_sets c.verdict ≡ sets_of m s e
  unfolding sets_of
  sets-refused c e q h =
      let w = handed m s c q h in
      ap refused_sets w.2 ∙ sym (ap (λ (o : Option Refusal). sets_by (o ▸ refuse_if (not (is_expression a e)) 14 0) a e) w.1)

  pub skip-refused : (c : Counted) → c ≡ read_of m s → is_refused c.verdict ≡ true → record { word = 0; verdict = c.verdict } ≡ cannot_skip_of m s
  unfolding cannot_skip_of
  skip-refused c q h =
      let w = handed m s c q h in
      ap (λ (v : Verdict). record { word = 0; verdict = v }) w.2 ∙ sym (ap (λ (o : Option Refusal). lakes_by o (prepared m s)) w.1)

  module _ (clear : refuses m s ≡ none) (e : ℕ) where
    by-expression : (b : Bool) → is_expression a e ≡ b → sets_by (refuse_if (not b) 14 0) a e ≡ sets_of m s e
    unfolding sets_of
    by-expression b h =
        sym (ap (λ (o : Option Refusal). sets_by (o ▸ refuse_if (not (is_expression a e)) 14 0) a e) clear ∙ ap (λ (c : Bool). sets_by (refuse_if (not c) 14 0) a e) h)

    no-expression : is_expression a e ≡ false → refused_sets (VerdictRefused 14 0) ≡ sets_of m s e
    unfolding verdict_of
    no-expression h = by-expression false h

    one-expression : is_expression a e ≡ true → record { sets = sets_at a e; rounds = a.rounds; verdict = Accepted } ≡ sets_of m s e
    unfolding verdict_of
    one-expression h = by-expression true h

-- ── as many expressions as the intermediate table holds ──
long-begins : (g : Grammar) (mid : List ℕ) → Holds mid (middle g) → length (analysis g).begins ≡ expression_count mid
unfolding analysis analysis_in analysed parts_in
long-begins g mid h =
    let m : ℕ → Bool = marked (marks_by right_empty (intermediate g)) in
    ap (λ (ps : List Part). length (beginnings m ps)) (sym h.parts) ∙ begins-long m (part_in mid) (expression_count mid)

module _ (m : Mode) (s t mid : List ℕ) (ms : List Bool) (sets : List (List ℕ)) (eps : List Bool) (succ alts : List (List ℕ)) (out : List ℕ) (rounds : ℕ)
    (st : Stands m s t mid ms sets eps succ alts out rounds) where
  count : length (a m s).begins ≡ expression_count mid
  unfolding prepared prepared_by
  count = long-begins (numbered (rules_of m s)) mid st.worked.between

  pub sets-zero : (e : ℕ) → e ≡ 0 → refused_sets (VerdictRefused 14 0) ≡ sets_of m s e
  sets-zero e h = no-expression m s st.clear e (ap (λ (b : Bool). b && leb e (length (a m s).begins)) (lt-leb 1 e (omega (arith, h))))

  pub sets-past : (e n : ℕ) → n ≡ expression_count mid → n < e → refused_sets (VerdictRefused 14 0) ≡ sets_of m s e
  sets-past e n q h =
      no-expression m s st.clear e
      (ap (λ (b : Bool). b && leb e (length (a m s).begins)) (le-leb 1 e (omega (arith, h))) ∙ lt-leb e (length (a m s).begins) (omega (arith, h, q, count)))

  pub sets-are : (e n : ℕ) (r : Sets) → n ≡ expression_count mid → (e ≡ 0 → ⊥) → e ≤ n → SetsPromise sets eps succ alts e r
      → record { sets = r; rounds = rounds; verdict = Accepted } ≡ sets_of m s e
  unfolding prepared prepared_by
  sets-are e n r q z h p =
      let x : is_expression (a m s) e ≡ true = ap (λ (b : Bool). b && leb e (length (a m s).begins)) (le-leb 1 e (omega (arith, z))) ∙ le-leb e (length (a m s).begins) (omega (arith, h, q, count)) in
      ap (λ (y : Sets). record { sets = y; rounds = rounds; verdict = Accepted }) (p (a m s) (expression_count mid) (symbol_count mid) rounds ms (omega (arith, h, q)) st.worked.analysed)
      ∙ ap (λ (k : ℕ). record { sets = sets_at (a m s) e; rounds = k; verdict = Accepted }) st.worked.analysed.rounds-is
      ∙ one-expression m s st.clear e x

  pub skip_is : (w : ℕ) → CannotSkip mid ms alts w → record { word = w; verdict = Accepted } ≡ cannot_skip_of m s
  unfolding cannot_skip_of prepared prepared_by verdict_of
  skip_is w p =
      ap (λ (k : ℕ). record { word = k; verdict = Accepted }) (p (numbered (rules_of m s)) _ _ _ rounds st.worked.between (clear-good m s st.clear).proper st.worked.analysed)
      ∙ sym (ap (λ (o : Option Refusal). lakes_by o (prepared m s)) st.clear)
