-- The lake question meets what the rules of the meaning and the table of refusals say of it, and nothing else does: answer and cells
-- (01, What the promises have to nail). Assumes nothing.
use Rattle.std.specs.Prelude.{ℕ, ◌≤◌, ◌≡◌, refl, Bool, true, false, not, ◌&&◌, List, [], ◌∷◌, length, leb}
use Rattle.std.proofs.Common.{sym, ap, ap₂, ◌∙◌, subst, true≢false, le-leb, leb-true}
use Rattle.std.proofs.Math.Option.{Option, none, some}
use Rattle.read_tokens.specs.declared.Mode.{Mode}
use Rattle.grammar.specs.Exp.{Exp}
use Rattle.grammar.specs.Refusal.{Refusal, refuse_if, ◌▸◌}
use Rattle.prepare.specs.Prepare.{prepared, refuses}
use Rattle.gurkenmond.specs.Calls.{LakeAnswer, lake_answer, refuses_input, filled, is_lake_at, lake_of}
use Rattle.demands.specs.Meant.{meant, right_at, alternatives_at}
use Rattle.demands.specs.Rows.{Row14}
use Rattle.demands.specs.Checks.{NoRow, input_checks, lake_checks}
use Rattle.demands.specs.Ways.{Ways}
use Rattle.demands.specs.Meets.{Tabled, MeetsLake, lake-refused, lake-answered}
use Rattle.demands.proofs.laws.Cells.{cells-filled}
use Rattle.demands.proofs.laws.Lakes.{lake-only, lake-meant, lake-cells}
use Rattle.demands.proofs.laws.Chain.{silent, accepts, none-of-both}
use Rattle.demands.proofs.laws.Refusals.{lake-chain}
use Rattle.demands.proofs.laws.Refused.{match-passes, lake-verdict, lake-refused as lake-refused-is}
use Rattle.demands.proofs.laws.Meets.{tabled-one, table}

module _ (m : Mode) (t s cs : List ℕ) (l q : ℕ) where
  abbrev own : Option (Exp ℕ)
  own = right_at (prepared m t).grammar l

  abbrev others : List (Exp ℕ)
  others = alternatives_at (prepared m t).grammar (prepared m t).analysis l

  module _ (z : NoRow (lake_checks m t s cs l q)) where
    no-match-row : NoRow (input_checks m t s cs)
    no-match-row = (none-of-both (input_checks m t s cs) (Row14 ((is_lake_at (prepared m t) l ≡ true) × (q ≤ length s)) ∷ []) z).0

    missed : ((is_lake_at (prepared m t) l ≡ true) × (q ≤ length s) → ⊥) → ⊥
    missed f = (none-of-both (input_checks m t s cs) (Row14 ((is_lake_at (prepared m t) l ≡ true) × (q ≤ length s)) ∷ []) z).1.0 0 (refl, f)

    there : (is_lake_at (prepared m t) l ≡ true) × (q ≤ length s)
    there = go (is_lake_at (prepared m t) l) (leb q (length s)) refl refl
      where
        go : (a b : Bool) → is_lake_at (prepared m t) l ≡ a → leb q (length s) ≡ b → (is_lake_at (prepared m t) l ≡ true) × (q ≤ length s)
        go true true e f = (e, leb-true q (length s) f)
        go true false e f = absurd (missed (λ h. true≢false (sym (le-leb q (length s) h.1) ∙ f)))
        go false b e f = absurd (missed (λ h. true≢false (sym h.0 ∙ e)))

    way-is : Ways (meant m t) s 0 own others q (lake_of m t s cs l q).way
    way-is = let w = match-passes m t s cs no-match-row in lake-meant m t s cs l q w.0 w.1 w.2 there.0 there.1 0

    way-only : {w : ℕ} → Ways (meant m t) s 0 own others q w → (lake_of m t s cs l q).way ≡ w
    way-only h = let w = match-passes m t s cs no-match-row in lake-only m t s cs l q w.0 w.1 w.2 there.0 there.1 h

    verdict-is : (lake_of m t s cs l q).verdict ≡ none
    verdict-is = lake-verdict m t s cs l q ∙ accepts (lake-chain m t s cs l q) z

    cells_are : (lake_of m t s cs l q).cells ≡ filled (prepared m t) s cs
    cells_are =
        let w = match-passes m t s cs no-match-row in
        lake-cells m t s cs l q w.0 w.1 w.2 there.0 there.1 [] ∙ cells-filled m t s cs [] w.0 w.1 w.2

    cells-tabled : Tabled m t s cs (lake_of m t s cs l q).cells
    cells-tabled = subst (Tabled m t s cs) (sym cells_are) (table m t s cs [] no-match-row)

  pub lake-meets : MeetsLake m t s cs l q (lake_of m t s cs l q)
  lake-meets = go (refuses m t ▸ (refuses_input (prepared m t) s cs ▸ refuse_if (not (is_lake_at (prepared m t) l && leb q (length s))) 14 0)) refl
    where
      go : (o : Option Refusal) → (refuses m t ▸ (refuses_input (prepared m t) s cs ▸ refuse_if (not (is_lake_at (prepared m t) l && leb q (length s))) 14 0)) ≡ o
          → MeetsLake m t s cs l q (lake_of m t s cs l q)
      go none e = let z = silent (lake-chain m t s cs l q) e in
          subst (λ (v : Option Refusal). MeetsLake m t s cs l q (lake_answer (lake_of m t s cs l q).way v (lake_of m t s cs l q).cells)) (sym (verdict-is z))
          (lake-answered z (cells-tabled z) (way-is z))
      go (some r) e =
          let f = (lake-chain m t s cs l q).says r e in
          subst (MeetsLake m t s cs l q) (sym (lake-refused-is m t s cs l q {k = r.number} {p = r.place} f)) (lake-refused f)

  pub lake-meets-only : {x : LakeAnswer} → MeetsLake m t s cs l q x → x ≡ lake_of m t s cs l q
  lake-meets-only (lake-refused f) = sym (lake-refused-is m t s cs l q f)
  lake-meets-only (lake-answered {w = w} {c = c} z a h) =
      ap₂ (λ (v : ℕ) (e : List ℕ). lake_answer v none e) (sym (way-only z h)) (tabled-one m t s cs c (lake_of m t s cs l q).cells a (cells-tabled z))
      ∙ ap (λ (o : Option Refusal). lake_answer (lake_of m t s cs l q).way o (lake_of m t s cs l q).cells) (sym (verdict-is z))
