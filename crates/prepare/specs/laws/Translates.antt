-- Steps 1 and 2 with the sets between them decide on refusal 7. Assumes nothing.
use Rattle.std.specs.Prelude.{ℕ, ◌≤◌, ◌<◌, min, ◌≡◌, Bool, List}
use Rattle.std.proofs.Common.{sym, ◌∙◌, arith}
use Rattle.read_tokens.specs.declared.Mode.{Mode}
use Rattle.grammar.specs.Syntax.{Rules}
use Rattle.grammar.specs.Trees.{trees}
use Rattle.grammar.specs.Numbers.{Grammar, numbered}
use Rattle.grammar_table.specs.Holds.{Holds}
use Rattle.read_grammar.specs.steps.Promises.{Sound}
use Rattle.lake_rules.specs.Analysis.{analysis}
use Rattle.lake_step_one.specs.Proper.{middle}
use Rattle.grammar_table.specs.laws.Parts.{total}
use Rattle.lake_step_one.specs.steps.Made.{with_bodies}
use Rattle.lake_step_one.proofs.laws.Held.{names-are}
use Rattle.lake_step_one.proofs.laws.Next.{middle-long}
use Rattle.lake_step_two.specs.steps.Stepped.{SteppedTwo, plain_of}
use Rattle.lake_step_two.proofs.laws.Once.{once-numbered}
use Rattle.lake_step_two.proofs.laws.Refused.{refused, let_through, refused-early}
use Rattle.prepare.specs.laws.Short.{short}
use Rattle.prepare.specs.laws.Rights.{proper}
use Rattle.prepare.specs.laws.Terminals.{none-empty}
use Rattle.prepare.specs.steps.Loads.{Good, Between, Follows, Worked}

pub good : (m : Mode) (s : List ℕ) (g : Rules) → Sound m s g → Good (numbered (trees g))
good m s g h = record { proper = proper m s g h; once = once-numbered (trees g); short = short m s g h; none-empty = none-empty m s g h }

module _ (mid : List ℕ) (alts : List (List ℕ)) (out : List ℕ) (n : ℕ) where
  pub early-over : 1024 < n → Follows n mid alts out n
  early-over h = record {
    translated = λ t ms sets eps succ rounds w. record {
      over = λ g a b l. refused-early g (analysis g) n (sym (names-are t g a) ∙ sym (middle-long t g a)) (w.stepped g a b.short).0 h;
      within = λ g a b l. absurd (omega arith);
    };
  }

  module _ (k : ℕ) (h : n ≤ 1024) (q : SteppedTwo mid alts out k) where
    module _ (t : List ℕ) (ms : List Bool) (sets : List (List ℕ)) (eps : List Bool) (succ : List (List ℕ)) (rounds : ℕ) (w : Between t mid ms sets eps succ alts n rounds)
        (g : Grammar) (a : Holds t g) (b : Good g) where
      held : Holds mid (middle g)
      held = let one = w.stepped g a b.short in one.1 (omega (arith, one.0, h))

      two : (k ≡ min 1025 (total (plain_of g))) × (total (plain_of g) ≤ 1024 → Holds out (with_bodies g (plain_of g)))
      two = q g (record { holds = held; proper = b.proper; once = b.once; alts-are = (w.fronted h g held b.proper).alts-is }) b.short

      worked : k ≤ 1024 → Worked g mid ms sets eps succ alts out rounds
      worked l =
          let x = let_through (plain_of g) k two.0 l in
          record { between = held; analysed = w.fronted h g held b.proper; few = x.0; plain = two.1 x.1 }

    pub translates : Follows n mid alts out k
    translates = record {
      translated = λ t ms sets eps succ rounds w. record {
        over = λ g a b l. refused (plain_of g) k (two t ms sets eps succ rounds w g a b).0 l;
        within = λ g a b l. worked t ms sets eps succ rounds w g a b l;
      };
    }
