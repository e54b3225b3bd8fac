-- What a text put into lent room answers (01, Writing; refusal 13). Assumes nothing: these are definitions.
use Rattle.std.specs.Prelude.{ℕ, ◌≡◌, Bool, true, false, List}
use Rattle.prepare.specs.declared.Verdict.{Verdict}
use Rattle.prepare.specs.declared.Verdict.TheVariants.{Accepted, Refused as VerdictRefused}
use Rattle.write_text.specs.steps.Texts.{Paged}
use Rattle.write_put.specs.declared.Written.{Written}

-- a refusal, handed on
abbrev pub not_written : Verdict → Written
not_written v = record { bytes = 0; verdict = v }

abbrev pub answer_by : Bool → ℕ → Written
answer_by true n = record { bytes = n; verdict = Accepted }
answer_by false n = not_written (VerdictRefused 13 n)

-- the text w put into room that was `old`
pub record Put (w old new : List ℕ) (r : Written) : Type 0 where
  pub bytes : ℕ
  pub fits : Bool
  pub paged : Paged w old new bytes fits
  pub answer : r ≡ answer_by fits bytes
