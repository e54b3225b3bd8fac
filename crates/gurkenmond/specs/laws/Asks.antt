-- The answer of the lake question, from what it comes to on the tables. Assumes nothing.
use Rattle.std.specs.Prelude.{ℕ, ◌≡◌, true, not, ◌&&◌, List, length, leb}
use Rattle.std.proofs.Math.Path.{refl, sym, ap}
use Rattle.std.proofs.Common.{◌∙◌}
use Rattle.std.proofs.Math.Option.{Option, none, some}
use Rattle.read_tokens.specs.declared.Mode.{Mode}
use Rattle.grammar.specs.Refusal.{Refusal, refuse_if, ◌▸◌}
use Rattle.lake_rules.specs.Analysis.{lake_alt}
use Rattle.match_ask.specs.declared.LakeAlt.{LakeAlt}
use Rattle.match_ask.specs.declared.LakeWay.{LakeWay}
use Rattle.match_ask.specs.steps.Asks.{not_asked, Lent, lent, asked_after, asked_of, Stood}
use Rattle.prepare.specs.declared.Verdict.{Verdict}
use Rattle.prepare.specs.Prepare.{Prepared, prepared}
use Rattle.prepare.specs.Reads.{verdict_of, is_refused, read_of}
use Rattle.gurkenmond.specs.Answers.{verdict_says, way_says}
use Rattle.gurkenmond.specs.Calls.{LakeAnswer, lake_answer, SaysWay, refuses_input, filled, is_lake_at, lake_after, lake_of}
use Rattle.gurkenmond.specs.laws.Answers.{way-said}
use Rattle.gurkenmond.specs.laws.Verdicts.{handed}

-- an answer and the cells, in 01's terms
abbrev told : Lent → LakeAnswer
told x = lake_answer (way_says x.answer.way) (verdict_says x.answer.verdict) x.cells

says-by : (r : LakeWay) (cs : List ℕ) (w : LakeAnswer) → told (lent r cs) ≡ w → SaysWay r cs w
says-by r cs w e = (ap (λ (x : LakeAnswer). x.way) e, ap (λ (x : LakeAnswer). x.verdict) e, ap (λ (x : LakeAnswer). x.cells) e)

-- the same answer says the same
pub as-way : {r r' : LakeWay} {cs : List ℕ} {x : LakeAnswer} → r ≡ r' → SaysWay r' cs x → SaysWay r cs x
as-way e s = (ap (λ (x : LakeWay). way_says x.way) e ∙ s.0, ap (λ (x : LakeWay). verdict_says x.verdict) e ∙ s.1, s.2)

asked-says : (o : Option Refusal) (p : Prepared) (i cs : List ℕ) (l q : ℕ) → told (asked_after o p i cs l q) ≡ lake_after o p i cs l q
asked-says (some r) p i cs l q = refl
asked-says none p i cs l q =
    ap (λ (k : ℕ). lake_answer k none (filled p i cs)) (way-said p.grammar i (filled p i cs) (length p.bodies) (lake_alt p.analysis l) l q)

module _ (m : Mode) (s i cs : List ℕ) (l q : ℕ) where
  -- 9, 10, then 14
  abbrev checks : Option Refusal
  checks = refuses_input (prepared m s) i cs ▸ refuse_if (not (is_lake_at (prepared m s) l && leb q (length i))) 14 0

  abbrev by-checks : Option Refusal → LakeAnswer
  by-checks o = lake_after (o ▸ checks) (prepared m s) i cs l q

  pub lake-refused : (v : Verdict) → v ≡ (read_of m s).verdict → is_refused v ≡ true → SaysWay (not_asked v) cs (lake_of m s i cs l q)
  unfolding lake_of verdict_of
  lake-refused v e h =
      let w = handed m s (read_of m s) refl (ap is_refused (sym e) ∙ h) in
      says-by (not_asked v) cs (lake_of m s i cs l q)
      (ap (λ (v : Verdict). told (lent (not_asked v) cs)) (e ∙ w.2) ∙ sym (ap by-checks w.1))

  pub lake-asked : (out : List ℕ) (a : LakeAlt) → Stood m s out a → a.symbol ≡ l → (new : List ℕ) (r : LakeWay) → lent r new ≡ asked_of (prepared m s) i cs a.symbol q
      → SaysWay r new (lake_of m s i cs l q)
  unfolding lake_of
  lake-asked out a st e new r w =
      says-by r new (lake_of m s i cs l q)
      (ap told (w ∙ ap (λ (k : ℕ). asked_of (prepared m s) i cs k q) e) ∙ asked-says checks (prepared m s) i cs l q ∙ sym (ap by-checks st.clear))
