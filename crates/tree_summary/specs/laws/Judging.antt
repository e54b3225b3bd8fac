-- Each way in which judging ends is what the checks in their order say. Assumes nothing.
use Rattle.std.specs.Prelude.{ℕ, ◌+◌, ◌≤◌, ◌<◌, ◌≡◌, refl, Bool, List, ltb, length}
use Rattle.std.proofs.Common.{sym, ◌∙◌, true≢false, lt-ltb, le-ltb}
use Rattle.std.proofs.Math.Path.{ap}
use Rattle.std.proofs.Math.Bool.{true, false}
use Rattle.std.proofs.Math.Option.{Option, none, some}
use Rattle.read_tokens.specs.Bounds.{input_bound}
use Rattle.grammar.specs.Refusal.{Refusal, refuse_if, refuse_at, ◌▸◌}
use Rattle.prepare.specs.Reads.{verdict_of}
use Rattle.prepare.specs.declared.Verdict.TheVariants.{Accepted, Refused}
use Rattle.match_list.specs.Nodes.{room_of}
use Rattle.tree_list.specs.Preorder.{bad_node}
use Rattle.tree_summary.specs.declared.Plan.{Plan}
use Rattle.tree_summary.specs.steps.Judging.{summary_checks, no_plan, plan_by}

module _ (R : ℕ) (s ws : List ℕ) (room : ℕ) where
  -- what is left to ask behind a check
  abbrev plan : Option Refusal → Plan
  plan o = plan_by o R ws

  abbrev judged : Option ℕ → Option Refusal
  judged o = refuse_at 15 o ▸ refuse_if (ltb room R) 17 R

  -- ── the input is too long, or it is not ──
  pub plan-long : input_bound < length s → no_plan (Refused 9 input_bound) ≡ plan (summary_checks R s ws room)
  unfolding verdict_of
  plan-long l = rw (lt-ltb input_bound (length s) l)

  plan-short : length s ≤ input_bound → plan (judged (bad_node R (length s) ws)) ≡ plan (summary_checks R s ws room)
  plan-short l = rw (le-ltb input_bound (length s) l)

  -- ── the words are no list, or they are one ──
  module _ (short : length s ≤ input_bound) where
    listed : (o : Option ℕ) → bad_node R (length s) ws ≡ o → plan (judged o) ≡ plan (summary_checks R s ws room)
    listed o e = ap (λ (x : Option ℕ). plan (judged x)) (sym e) ∙ plan-short short

    pub plan-bad : (k : ℕ) → bad_node R (length s) ws ≡ some k → no_plan (Refused 15 k) ≡ plan (summary_checks R s ws room)
    unfolding verdict_of
    plan-bad k e = listed (some k) e

    -- ── the records are too few, or they are not ──
    module _ (good : bad_node R (length s) ws ≡ none) where
      only-room : (b : Bool) → ltb room R ≡ b → plan (refuse_if b 17 R) ≡ plan (summary_checks R s ws room)
      only-room b q = ap (λ (x : Bool). plan (refuse_if x 17 R)) (sym q) ∙ listed none good

      pub plan-small : room < R → no_plan (Refused 17 R) ≡ plan (summary_checks R s ws room)
      unfolding verdict_of
      plan-small l = only-room true (lt-ltb room R l)

      pub plan-good : R ≤ room → record { symbols = R; steps = R + room_of ws; answer = record { symbols = R; verdict = Accepted } } ≡ plan (summary_checks R s ws room)
      unfolding verdict_of
      plan-good l = only-room false (le-ltb room R l)
