-- "Two results that meet it are proved equal" (01, What the promises have to nail): of each public call the result, and every lent word afterwards.
-- Assumes nothing.
use Rattle.std.specs.Prelude.{ℕ, ◌≡◌, Bool, List}
use Rattle.std.proofs.Common.{sym, ap, ap₂, ◌∙◌}
use Rattle.read_tokens.specs.declared.Mode.{Mode}
use Rattle.match_list.specs.Nodes.{sound_at, Handed}
use Rattle.prepare.specs.declared.Counted.{Counted}
use Rattle.prepare.specs.declared.Verdict.{Verdict}
use Rattle.gurkenmond.specs.declared.SetsOf.{SetsOf}
use Rattle.gurkenmond.specs.declared.Lakes.{Lakes}
use Rattle.match_run.specs.declared.Match.{Match}
use Rattle.match_run.specs.declared.Outcome.{Outcome}
use Rattle.match_lake.specs.declared.ways.Way.{Way}
use Rattle.match_ask.specs.declared.LakeWay.{LakeWay}
use Rattle.write_put.specs.declared.Written.{Written}
use Rattle.tree_list.specs.declared.NodeStep.{NodeStep}
use Rattle.tree_list.specs.Handing.{node_step_at}
use Rattle.tree_read.specs.declared.Parsed.{Parsed}
use Rattle.gurkenmond.specs.Calls.{SaysRead, SaysSets, SaysLakes, match_of, SaysMatch, lake_of, SaysWay, Writing, write_own_of, write_plain_of, symbol_name_of, SaysText}
use Rattle.tree_summary.specs.declared.Summary.{Summary}
use Rattle.tree_summary.specs.declared.Summed.{Summed}
use Rattle.gurkenmond.specs.declared.Spot.{Spot}
use Rattle.gurkenmond.specs.Calls.{write_json_of, read_json_of, SaysParsed, summarise_of, SaysSummed, spot_of, SaysSpot}
use Rattle.gurkenmond.specs.laws.Answers.{verdict-one, way-one, outcome-one}

same : {A : Type 0} {a b c : A} → a ≡ c → b ≡ c → a ≡ b
same e f = e ∙ sym f

module _ (m : Mode) (t : List ℕ) where
  pub read_one : (r r' : Counted) → SaysRead r m t → SaysRead r' m t → r ≡ r'
  read_one r r' e f = same e.0 f.0

  pub sets-one : (i : ℕ) (r r' : SetsOf) → SaysSets r m t i → SaysSets r' m t i → r ≡ r'
  sets-one i r r' e f = same e.0 f.0

  pub cannot-skip-one : (r r' : Lakes) → SaysLakes r m t → SaysLakes r' m t → r ≡ r'
  cannot-skip-one r r' e f = same e.0 f.0

  -- the answer, the cells, the node words
  pub match-one : (s cs ws : List ℕ) (r r' : Match) (c c' w w' : List ℕ) → SaysMatch r c w (match_of m t s cs ws) → SaysMatch r' c' w' (match_of m t s cs ws) → (r ≡ r') × (c ≡ c') × (w ≡ w')
  match-one s cs ws r r' c c' w w' e f =
      (ap₂ (λ (k : ℕ) (o : Outcome). record { nodes = k; outcome = o }) (same e.0 f.0) (outcome-one r.outcome r'.outcome (same e.1 f.1)), same e.2 f.2, same e.3 f.3)

  -- the answer, the cells
  pub lake-one : (s cs : List ℕ) (l q : ℕ) (r r' : LakeWay) (c c' : List ℕ) → SaysWay r c (lake_of m t s cs l q) → SaysWay r' c' (lake_of m t s cs l q) → (r ≡ r') × (c ≡ c')
  lake-one s cs l q r r' c c' e f = (
    ap₂ (λ (x : Way) (v : Verdict). record { way = x; verdict = v }) (way-one r.way r'.way (same e.0 f.0))
        (verdict-one r.verdict r'.verdict (same e.1 f.1)),
    same e.2 f.2,
  )

  -- the answer, the output room
  text-one : (r r' : Written) (o o' : List ℕ) (w : Writing) → SaysText r o w → SaysText r' o' w → (r ≡ r') × (o ≡ o')
  text-one r r' o o' w e f =
      (ap₂ (λ (k : ℕ) (v : Verdict). record { bytes = k; verdict = v }) (same e.0 f.0) (verdict-one r.verdict r'.verdict (same e.1 f.1)), same e.2 f.2)

  pub write-own-one : (out : List ℕ) (r r' : Written) (o o' : List ℕ) → SaysText r o (write_own_of m t out) → SaysText r' o' (write_own_of m t out) → (r ≡ r') × (o ≡ o')
  write-own-one out r r' o o' = text-one r r' o o' (write_own_of m t out)

  pub write-plain-one : (out : List ℕ) (r r' : Written) (o o' : List ℕ) → SaysText r o (write_plain_of m t out) → SaysText r' o' (write_plain_of m t out) → (r ≡ r') × (o ≡ o')
  write-plain-one out r r' o o' = text-one r r' o o' (write_plain_of m t out)

  pub symbol-name-one : (x : ℕ) (out : List ℕ) (r r' : Written) (o o' : List ℕ) → SaysText r o (symbol_name_of m t x out) → SaysText r' o' (symbol_name_of m t x out) → (r ≡ r') × (o ≡ o')
  symbol-name-one x out r r' o o' = text-one r r' o o' (symbol_name_of m t x out)

-- the answer, the node words
module _ (m : Mode) (t s : List ℕ) where
  pub write-json-one : (ws out : List ℕ) (r r' : Written) (o o' : List ℕ) → SaysText r o (write_json_of m t s ws out) → SaysText r' o' (write_json_of m t s ws out) → (r ≡ r') × (o ≡ o')
  write-json-one ws out r r' o o' = text-one m t r r' o o' (write_json_of m t s ws out)

  pub read-json-one : (js ws : List ℕ) (r r' : Parsed) (w w' : List ℕ) → SaysParsed r w (read_json_of m t s js ws) → SaysParsed r' w' (read_json_of m t s js ws) → (r ≡ r') × (w ≡ w')
  read-json-one js ws r r' w w' e f =
      (ap₂ (λ (k : ℕ) (v : Verdict). record { nodes = k; verdict = v }) (same e.0 f.0) (verdict-one r.verdict r'.verdict (same e.1 f.1)), same e.2 f.2)

  pub summarise-one : (ws : List ℕ) (rs : List Summary) (r r' : Summed) (o o' : List Summary) → SaysSummed r o (summarise_of m t s ws rs) → SaysSummed r' o' (summarise_of m t s ws rs)
      → (r ≡ r') × (o ≡ o')
  summarise-one ws rs r r' o o' e f =
      (ap₂ (λ (k : ℕ) (v : Verdict). record { symbols = k; verdict = v }) (same e.0 f.0) (verdict-one r.verdict r'.verdict (same e.1 f.1)), same e.2 f.2)

pub spot-one : (s : List ℕ) (p : ℕ) (r r' : Spot) → SaysSpot r (spot_of s p) → SaysSpot r' (spot_of s p) → r ≡ r'
spot-one s p r r' e f =
    ap₂ (λ (k : ℕ) (v : Verdict). record { line = k; column = r.column; verdict = v }) (same e.0 f.0) (verdict-one r.verdict r'.verdict (same e.2 f.2))
    ∙ ap (λ (c : ℕ). record { line = r'.line; column = c; verdict = r'.verdict }) (same e.1 f.1)

pub node-step-one : (ws : List ℕ) (at : ℕ) (r r' : NodeStep) → r ≡ node_step_at ws at → r' ≡ node_step_at ws at → r ≡ r'
node-step-one ws at r r' e f = same e f

pub node-sound-one : (ws : List ℕ) (k n : ℕ) (r r' : Bool) → r ≡ sound_at ws k n → r' ≡ sound_at ws k n → r ≡ r'
node-sound-one ws k n r r' e f = same e f

-- the part: its bytes, and where it points
pub node-text-one : (s : List ℕ) (begin : ℕ × ℕ) (ws : List ℕ) (k : ℕ) (r r' : List ℕ) (p p' : ℕ × ℕ) → Handed r p s begin ws k → Handed r' p' s begin ws k → (r ≡ r') × (p ≡ p')
node-text-one s begin ws k r r' p p' e f = (same e.bytes f.bytes, same e.place f.place)
