-- The records of a node list, from the table that holds an accepted grammar (02, par. 2). Assumes nothing.
use Rattle.std.specs.Prelude.{ℕ, ◌<◌, ◌≤◌, ◌≡◌, true, ltb}
use native.Mathlib.Omega.{arith}
use Rattle.std.proofs.Math.Path.{refl, sym, ap}
use Rattle.std.proofs.Common.{ap₂, ◌∙◌, ltb-false}
use mathlib.Core.List.{List}
use Rattle.std.proofs.Math.Option.{Option, none, some}
use Rattle.std.proofs.Math.ListN.{length}
use Rattle.read_tokens.specs.declared.Mode.{Mode}
use Rattle.read_tokens.specs.Bounds.{input_bound, symbol_bound, terminal_bound, expression_bound}
use Rattle.grammar.specs.Numbers.{symbols_of, terminals_of, expressions_of, numbered}
use Rattle.grammar.specs.Refusal.{Refusal, refuse_if, refuse_at, ◌▸◌}
use Rattle.grammar_table.specs.Holds.{Holds}
use Rattle.grammar_table.specs.Table.{symbol_count}
use Rattle.grammar.specs.Exp.{Rule}
use Rattle.read_syntax.specs.Reading.{rules_of, too_many}
use Rattle.match_ask.specs.laws.Asks.{symbols-of}
use Rattle.prepare.specs.declared.Counted.{Counted}
use Rattle.prepare.specs.Prepare.{prepared, prepared_by, refuses}
use Rattle.prepare.specs.Reads.{verdict_of, is_refused, read_of}
use Rattle.prepare.specs.steps.Scanned.{scanned}
use Rattle.prepare.specs.laws.Chain.{text-by-scan}
use Rattle.prepare.specs.laws.Reads.{split, clear-text}
use Rattle.tree_list.specs.Preorder.{bad_node}
use Rattle.tree_summary.specs.declared.Plan.{Plan}
use Rattle.tree_summary.specs.declared.Summary.{Summary}
use Rattle.tree_summary.specs.declared.Summed.{Summed}
use Rattle.tree_summary.specs.steps.Sweeping.{stepped, Sweepable}
use Rattle.tree_summary.specs.steps.Judging.{summary_checks, no_plan, plan_by}
use Rattle.tree_summary.specs.laws.Sweeping.{stepped-all}
use Rattle.gurkenmond.specs.Answers.{verdict_says}
use Rattle.gurkenmond.specs.Calls.{Summing, summing, summarise_after, summarise_of, SaysSummed}
use Rattle.gurkenmond.specs.steps.Plans.{plan_of}
use Rattle.gurkenmond.specs.laws.Verdicts.{handed, if_none, at_none}

-- ── the plan ──
module _ (m : Mode) (g s ws : List ℕ) (room : ℕ) where
  abbrev R : ℕ
  R = length (prepared m g).grammar.names

  pub plan-refused : (c : Counted) → c ≡ read_of m g → is_refused c.verdict ≡ true → no_plan c.verdict ≡ plan_of m g s ws room
  unfolding plan_of
  plan-refused c q h =
      let w = handed m g c q h in
      ap no_plan w.2 ∙ sym (ap (λ (o : Option Refusal). plan_by (o ▸ summary_checks R s ws room) R ws) w.1)

  pub plan-judged : refuses m g ≡ none → (t : List ℕ) → Holds t (numbered (rules_of m g))
      → plan_by (summary_checks (symbol_count t) s ws room) (symbol_count t) ws ≡ plan_of m g s ws room
  unfolding plan_of prepared prepared_by
  plan-judged clear t h =
      ap (λ (k : ℕ). plan_by (summary_checks k s ws room) k ws) (symbols-of t (numbered (rules_of m g)) h)
      ∙ sym (ap (λ (o : Option Refusal). plan_by (o ▸ summary_checks R s ws room) R ws) clear)

-- ── what is left to do, and what it comes to ──
few-names : (m : Mode) (g : List ℕ) → refuses m g ≡ none → length (prepared m g).grammar.names ≤ 64
unfolding prepared prepared_by too_many numbered symbol_bound
few-names m g clear =
    let rs : List Rule = rules_of m g in
    let many : too_many m rs ≡ none = (split (scanned m g) (too_many m rs) (sym (text-by-scan m g) ∙ clear-text m g clear)).1 in
    let later : Option Refusal = refuse_if (ltb terminal_bound (length (terminals_of rs))) 6 2 ▸ refuse_if (ltb (expression_bound m) (expressions_of rs)) 6 3 in
    ltb-false 64 (length (symbols_of rs)) (if_none (ltb symbol_bound (length (symbols_of rs))) 6 1 (split (refuse_if (ltb symbol_bound (length (symbols_of rs))) 6 1) later many).0)

module _ (m : Mode) (g s ws : List ℕ) (rs : List Summary) where
  abbrev N : ℕ
  N = length (prepared m g).grammar.names

  abbrev checks : Option Refusal
  checks = refuses m g ▸ summary_checks N s ws (length rs)

  -- all checks have let it through
  record Passed : Type 0 where
    clear : refuses m g ≡ none
    short : length s ≤ input_bound
    good : bad_node N (length s) ws ≡ none
    room : N ≤ length rs

  passed : checks ≡ none → Passed
  passed e =
      let x = split (refuses m g) (summary_checks N s ws (length rs)) e in
      let y = split (refuse_if (ltb input_bound (length s)) 9 input_bound ▸ refuse_at 15 (bad_node N (length s) ws)) (refuse_if (ltb (length rs) N) 17 N) x.1 in
      let z = split (refuse_if (ltb input_bound (length s)) 9 input_bound) (refuse_at 15 (bad_node N (length s) ws)) y.0 in
      record {
        clear = x.0;
        short = ltb-false input_bound (length s) (if_none (ltb input_bound (length s)) 9 input_bound z.0);
        good = at_none 15 (bad_node N (length s) ws) z.1;
        room = ltb-false (length rs) N (if_none (ltb (length rs) N) 17 N y.1);
      }

  abbrev plan : Plan
  plan = plan_of m g s ws (length rs)

  -- what a plan asks of the words and of the records
  pub plan-fits : length ws < 18446744073709551616 → 0 < plan.steps → Sweepable ws plan.symbols plan.steps × (plan.symbols ≤ length rs)
  unfolding plan_of input_bound
  plan-fits long some-step = by-checks checks refl some-step
    where
      by-checks : (o : Option Refusal) → checks ≡ o → 0 < (plan_by o N ws).steps
          → Sweepable ws (plan_by o N ws).symbols (plan_by o N ws).steps × ((plan_by o N ws).symbols ≤ length rs)
      by-checks (some x) e l = absurd (omega (arith, l))
      by-checks none e l =
          let p : Passed = passed e in
          (record { n = length s; good = p.good; few = few-names m g p.clear; short = omega (arith, p.short); long = long; within = omega arith }, p.room)

  abbrev heard : Summed → List Summary → Summing
  heard r new = summing r.symbols (verdict_says r.verdict) new

  -- what is answered and left, in 01's terms
  pub plan-says : (r : Summed) (new : List Summary) → r ≡ plan.answer → new ≡ stepped ws plan.symbols plan.steps rs → SaysSummed r new (summarise_of m g s ws rs)
  unfolding plan_of summarise_of stepped verdict_of
  plan-says r new e f = said (ap₂ heard e f ∙ by-checks checks refl)
    where
      by-checks : (o : Option Refusal) → checks ≡ o
          → heard (plan_by o N ws).answer (stepped ws (plan_by o N ws).symbols (plan_by o N ws).steps rs) ≡ summarise_after o (prepared m g) s ws rs
      by-checks (some x) q = refl
      by-checks none q = ap (λ (l : List Summary). summing N none l) (stepped-all ws N (length s) rs (passed q).good (passed q).room)

      said : heard r new ≡ summarise_of m g s ws rs → SaysSummed r new (summarise_of m g s ws rs)
      said q = (ap (λ (x : Summing). x.symbols) q, ap (λ (x : Summing). x.verdict) q, ap (λ (x : Summing). x.records) q)
