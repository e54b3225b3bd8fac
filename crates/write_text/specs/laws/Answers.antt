-- What `write` answers of a table that holds an accepted grammar, or its translation: the exact number of bytes, and the room (01, Writing; refusal 13). Assumes nothing.
use Rattle.std.specs.Prelude.{ℕ, ◌≤◌, ◌≡◌, Bool, true, false, List, ◌++◌, length, drop, leb, ltb}
use Rattle.std.proofs.Common.{sym, ap, ◌∙◌, subst, arith, lt-ltb, le-ltb, leb-true, leb-false}
use Rattle.read_tokens.specs.declared.Mode.{Mode}
use Rattle.read_tokens.specs.laws.Bytes.{Bytes}
use Rattle.grammar.specs.Exp.{Rule}
use Rattle.grammar.specs.Syntax.{Rules}
use Rattle.grammar.specs.Trees.{trees}
use Rattle.grammar.specs.Numbers.{numbered}
use Rattle.grammar_table.specs.Holds.{Holds}
use Rattle.lake_rules.specs.Analysis.{analysis}
use Rattle.lake_step_one.specs.steps.Made.{with_bodies}
use Rattle.lake_plain.specs.Plain.{plain_rules}
use Rattle.lake_step_two.specs.steps.Stepped.{plain_of}
use Rattle.read_grammar.specs.steps.Promises.{Sound}
use Rattle.write_rules.specs.Writing.{text}
use Rattle.write_text.specs.steps.Texts.{room_by, text_of, Paged}
use Rattle.write_text.specs.laws.Own.{own-text}
use Rattle.write_text.specs.laws.Plain.{plain-text}
use Rattle.write_text.specs.laws.Lengths.{own-short, plain-short}

-- the text w written to room that was `old`, or refused for want of room
pub record Answered (w old new : List ℕ) (bytes : ℕ) (fits : Bool) : Type 0 where
  pub count : bytes ≡ length w
  pub fitted : fits ≡ true → (ltb (length old) (length w) ≡ false) × (new ≡ w ++ drop (length w) old)
  pub lacking : fits ≡ false → (ltb (length old) (length w) ≡ true) × (new ≡ old)

pub answered : {w old new : List ℕ} {bytes : ℕ} {fits : Bool} → Paged w old new bytes fits → length w ≤ 1048576 → Answered w old new bytes fits
answered {w} {old} {new} {bytes} {fits} p h = record {
  count = omega (arith, p.counted, h);
  fitted = λ e.
      let q : leb (length w) (length old) ≡ true = sym p.fitting ∙ e in
      (le-ltb (length old) (length w) (leb-true (length w) (length old) q), p.room ∙ ap (λ (b : Bool). room_by b w old) q);
  lacking = λ e.
      let q : leb (length w) (length old) ≡ false = sym p.fitting ∙ e in
      (lt-ltb (length old) (length w) (leb-false (length w) (length old) q), p.room ∙ ap (λ (b : Bool). room_by b w old) q);
}

module _ (m : Mode) (s : List ℕ) (g : Rules) (b : Bytes s) (sound : Sound m s g) (t old new : List ℕ) (bytes : ℕ) (fits : Bool) where
  own-by : Holds t (numbered (trees g)) → Paged (text_of false t) old new bytes fits → Answered (text (trees g)) old new bytes fits
  own-by h p = answered (subst (λ (w : List ℕ). Paged w old new bytes fits) (own-text m s g b sound t h) p) (own-short m s g b sound t h)

  plain_by : Holds t (with_bodies (numbered (trees g)) (plain_of (numbered (trees g)))) → Paged (text_of true t) old new bytes fits
      → Answered (text (plain_rules (numbered (trees g)) (analysis (numbered (trees g))))) old new bytes fits
  plain_by h p = answered (subst (λ (w : List ℕ). Paged w old new bytes fits) (plain-text m s g b sound t h) p) (plain-short m s g b sound t h)

  -- the same of the rules that are read
  pub own : (rs : List Rule) → trees g ≡ rs → Holds t (numbered rs) → Paged (text_of false t) old new bytes fits → Answered (text rs) old new bytes fits
  own rs e = subst (λ (qs : List Rule). Holds t (numbered qs) → Paged (text_of false t) old new bytes fits → Answered (text qs) old new bytes fits) e own-by

  pub plain : (rs : List Rule) → trees g ≡ rs → Holds t (with_bodies (numbered rs) (plain_of (numbered rs))) → Paged (text_of true t) old new bytes fits
      → Answered (text (plain_rules (numbered rs) (analysis (numbered rs)))) old new bytes fits
  plain rs e =
      subst (λ (qs : List Rule). Holds t (with_bodies (numbered qs) (plain_of (numbered qs))) → Paged (text_of true t) old new bytes fits
      → Answered (text (plain_rules (numbered qs) (analysis (numbered qs)))) old new bytes fits) e plain_by
