-- What `write_text::texts::write` answers of a table that holds an accepted grammar, or its translation, is what the public definitions say (01, Writing; refusal 13). Assumes nothing.
use Rattle.std.specs.Prelude.{ℕ, ◌≡◌, refl, Bool, true, false, length}
use Rattle.std.proofs.Math.Path.{sym}
use Rattle.std.proofs.Common.{ap, ap₂, ◌∙◌}
use mathlib.Core.List.{List}
use Rattle.std.proofs.Math.Option.{Option, none, some}
use Rattle.read_tokens.specs.declared.Mode.{Mode}
use Rattle.read_tokens.specs.laws.Bytes.{Bytes}
use Rattle.grammar.specs.Numbers.{numbered}
use Rattle.grammar_table.specs.Holds.{Holds}
use Rattle.grammar.specs.Refusal.{Refusal, refusal, refuse_if}
use Rattle.read_syntax.specs.Reading.{rules_of}
use Rattle.lake_rules.specs.Analysis.{analysis}
use Rattle.lake_step_one.specs.steps.Made.{with_bodies}
use Rattle.lake_plain.specs.Plain.{plain_rules}
use Rattle.lake_step_two.specs.steps.Stepped.{plain_of}
use Rattle.write_rules.specs.Writing.{text}
use Rattle.write_text.specs.steps.Texts.{text_of, Paged}
use Rattle.write_text.specs.laws.Answers.{Answered, own, plain}
use Rattle.prepare.specs.declared.Counted.{Counted}
use Rattle.prepare.specs.declared.Verdict.{Verdict}
use Rattle.prepare.specs.Reads.{verdict_of, is_refused, read_of}
use Rattle.prepare.specs.Prepare.{prepared, prepared_by, refuses}
use Rattle.prepare.specs.laws.Reads.{grammar-read, clear-text}
use Rattle.write_put.specs.declared.Written.{Written}
use Rattle.gurkenmond.specs.Answers.{verdict_says}
use Rattle.gurkenmond.specs.Calls.{Writing, writing, SaysText, write_after, write_by, write_own_of, write_plain_of}
use Rattle.write_put.specs.steps.Puts.{not_written, answer_by, Put}
use Rattle.gurkenmond.specs.laws.Verdicts.{handed}

-- an answer and the room, in 01's terms
abbrev pub told : Written → List ℕ → Writing
told r o = writing r.bytes (verdict_says r.verdict) o

pub says-by : (r : Written) (o : List ℕ) (w : Writing) → told r o ≡ w → SaysText r o w
says-by r o w e = (ap (λ (x : Writing). x.bytes) e, ap (λ (x : Writing). x.verdict) e, ap (λ (x : Writing). x.out) e)

-- the same answer says the same
pub as-text : {r r' : Written} {o : List ℕ} {w : Writing} → r ≡ r' → SaysText r' o w → SaysText r o w
as-text e s = (ap (λ (x : Written). x.bytes) e ∙ s.0, ap (λ (x : Written). verdict_says x.verdict) e ∙ s.1, s.2)

-- ── a text w that was put, or was not for want of room ──
by-fit : {w old new : List ℕ} {k : ℕ} (f : Bool) → Answered w old new k f → told (answer_by f k) new ≡ write_by none w old
by-fit {w} {old} true a =
    ap₂ (λ (k : ℕ) (o : List ℕ). writing k none o) a.count (a.fitted refl).1 ∙ sym (ap (λ (b : Bool). write_after (refuse_if b 13 (length w)) w old) (a.fitted refl).0)
by-fit {w} {old} false a =
    ap₂ (λ (k : ℕ) (o : List ℕ). writing 0 (some (refusal 13 k)) o) a.count (a.lacking refl).1
    ∙ sym (ap (λ (b : Bool). write_after (refuse_if b 13 (length w)) w old) (a.lacking refl).0)

pub puts : {v w old new : List ℕ} {r : Written} → Put v old new r → ((k : ℕ) (f : Bool) → Paged v old new k f → Answered w old new k f) → told r new ≡ write_by none w old
puts {new = new} p a = ap (λ (x : Written). told x new) p.answer ∙ by-fit p.fits (a p.bytes p.fits p.paged)

-- ── refused 1 to 8: the room stays as it was ──
module _ (m : Mode) (s old new : List ℕ) (c : Counted) (q : c ≡ read_of m s) (h : is_refused c.verdict ≡ true) (same : new ≡ old) where
  pub refused-by : (call : List ℕ → Writing) → ((r : Refusal) → refuses m s ≡ some r → writing 0 (some r) old ≡ call old) → SaysText (not_written c.verdict) new (call old)
  unfolding verdict_of
  refused-by call f =
      let w = handed m s c q h in
      says-by (not_written c.verdict) new (call old)
      (ap₂ (λ (v : Verdict) (o : List ℕ). told (not_written v) o) w.2 same ∙ f w.0 w.1)

  pub own-refuses : SaysText (not_written c.verdict) new (write_own_of m s old)
  unfolding write_own_of
  own-refuses = refused-by (write_own_of m s) (λ r e. sym (ap (λ (o : Option Refusal). write_by o (text (prepared m s).rules) old) e))

  pub plain-refuses : SaysText (not_written c.verdict) new (write_plain_of m s old)
  unfolding write_plain_of
  plain-refuses = refused-by (write_plain_of m s) (λ r e. sym (ap (λ (o : Option Refusal). write_by o (text (plain_rules (prepared m s).grammar (prepared m s).analysis)) old) e))

-- ── accepted ──
module _ (m : Mode) (s old new : List ℕ) (b : Bytes s) (clear : refuses m s ≡ none) (t : List ℕ) (r : Written) where
  -- the grammar's own text, from the table that holds it
  own-by : write_by none (text (rules_of m s)) old ≡ write_own_of m s old
  unfolding write_own_of prepared prepared_by
  own-by = sym (ap (λ (o : Option Refusal). write_by o (text (rules_of m s)) old) clear)

  pub own-puts : Holds t (numbered (rules_of m s)) → Put (text_of false t) old new r → SaysText r new (write_own_of m s old)
  own-puts h p =
      let w = grammar-read m s (clear-text m s clear) in
      says-by r new (write_own_of m s old) (puts p (λ k f. own m s w.0 b w.1 t old new k f (rules_of m s) w.2 h) ∙ own-by)

  -- the plain text, from the table that holds the translation
  plain_by : write_by none (text (plain_rules (numbered (rules_of m s)) (analysis (numbered (rules_of m s))))) old ≡ write_plain_of m s old
  unfolding write_plain_of prepared prepared_by
  plain_by = sym (ap (λ (o : Option Refusal). write_by o (text (plain_rules (numbered (rules_of m s)) (analysis (numbered (rules_of m s))))) old) clear)

  pub plain-puts : Holds t (with_bodies (numbered (rules_of m s)) (plain_of (numbered (rules_of m s)))) → Put (text_of true t) old new r → SaysText r new (write_plain_of m s old)
  plain-puts h p =
      let w = grammar-read m s (clear-text m s clear) in
      says-by r new (write_plain_of m s old) (puts p (λ k f. plain m s w.0 b w.1 t old new k f (rules_of m s) w.2 h) ∙ plain_by)
