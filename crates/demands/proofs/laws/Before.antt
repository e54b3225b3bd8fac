-- Every grammar that was accepted before 02, §4 is accepted (less ε makes no plain form larger and no new loop). Assumes nothing.
use Rattle.std.specs.Prelude.{ℕ, suc, ◌≤◌, ◌≡◌, refl, Bool, true, false, List, ltb}
use Rattle.std.proofs.Common.{sym, ap, ap₂, ◌∙◌, subst, true≢false, arith, ltb-false, le-ltb}
use Rattle.std.proofs.Math.Option.{Option, none, some}
use Rattle.read_tokens.specs.Bounds.{plain_bound}
use Rattle.read_tokens.specs.declared.Mode.{Mode}
use Rattle.grammar.specs.Exp.{Exp, Rule}
use Rattle.grammar.specs.Numbers.{Grammar, numbered}
use Rattle.grammar.specs.Refusal.{Refusal, refuse_if, refuse_at, ◌▸◌}
use Rattle.read_syntax.specs.Reading.{refuses_text, rules_of}
use Rattle.lake_step_one.specs.Proper.{ProperIn}
use Rattle.lake_rules.specs.Analysis.{analysis}
use Rattle.lake_plain.specs.Plain.{plain_bodies, sizes}
use Rattle.lake_plain.specs.Calls.{loop, looping}
use Rattle.lake_before.specs.Before.{plain_before}
use Rattle.lake_before.specs.laws.Accepted.{no-larger, no-new-loop}
use Rattle.prepare.specs.Prepare.{prepared, prepared_by, refuses}
use Rattle.prepare.specs.laws.Dot.{dot-in}
use Rattle.prepare.specs.laws.Rights.{sound-rights}
use Rattle.prepare.specs.laws.Reads.{grammar-read}
use Rattle.demands.specs.Before.{refused_by, refuses_before}
use Rattle.demands.proofs.laws.Meant.{rights-many}

some-not : {r : Refusal} → (some r ≡ none → ⊥)
some-not {r} e = true≢false (ap there e)
  where
    there : Option Refusal → Bool
    there none = false
    there (some x) = true

-- the right sides of a text that 1 to 6 let through
is-sound : (m : Mode) (t : List ℕ) → refuses_text m t ≡ none → ProperIn (numbered (rules_of m t))
is-sound m t ok = let w = grammar-read m t ok in subst (λ (rs : List Rule). ProperIn (numbered rs)) w.2 (sound-rights m t w.0 w.1)

-- what lets a text through
module _ (bodies : List (Exp ℕ)) where
  parts : (o : Option Refusal) → refused_by o bodies ≡ none → (o ≡ none) × (refused_by none bodies ≡ none)
  parts none e = (refl, e)
  parts (some r) e = absurd (some-not e)

  few-by : (b : Bool) → (refuse_if b 7 (suc plain_bound) ▸ looping bodies) ≡ none → b ≡ false
  few-by true e = absurd (some-not e)
  few-by false e = refl

  loop-by : (b : Bool) (o : Option ℕ) → (refuse_if b 7 (suc plain_bound) ▸ refuse_at 8 o) ≡ none → o ≡ none
  loop-by true o e = absurd (some-not e)
  loop-by false none e = refl
  loop-by false (some p) e = absurd (some-not e)

  small : refused_by none bodies ≡ none → sizes bodies ≤ plain_bound
  small e = ltb-false plain_bound (sizes bodies) (few-by (ltb plain_bound (sizes bodies)) e)

  unlooped : refused_by none bodies ≡ none → loop bodies ≡ none
  unlooped e = loop-by (ltb plain_bound (sizes bodies)) (loop bodies) e

  through : sizes bodies ≤ plain_bound → loop bodies ≡ none → refused_by none bodies ≡ none
  through h e = ap₂ (λ (b : Bool) (o : Option ℕ). refuse_if b 7 (suc plain_bound) ▸ refuse_at 8 o) (le-ltb plain_bound (sizes bodies) h) e

pub still-accepted : (m : Mode) (t : List ℕ) → refuses_before m t ≡ none → refuses m t ≡ none
unfolding refuses prepared prepared_by
still-accepted m t h =
    let g : Grammar = numbered (rules_of m t) in
    let old : List (Exp ℕ) = plain_before g in
    let w = parts old (refuses_text m t) h in
    let sound = is-sound m t w.0 in
    let many = sym (rights-many (rules_of m t)) in
    let dot = dot-in (rules_of m t) in
    ap (λ (o : Option Refusal). refused_by o (plain_bodies g (analysis g))) w.0
    ∙ through (plain_bodies g (analysis g)) (omega (arith, no-larger g sound many dot, small old w.1)) (no-new-loop g sound many dot (unlooped old w.1))
