-- How a lake matches at a place, by the rules of the meaning (01, Meaning of a match: "how a lake matches at a position (0 not, 1 by its rule, 2 by water,
-- 3 by one skipped byte)"). Assumes nothing: these are definitions.
use Rattle.std.specs.Prelude.{ℕ, suc, ◌≤◌, ◌<◌, List, length}
use Rattle.std.proofs.Math.Option.{Option}
use Rattle.grammar.specs.Exp.{Exp}
use Rattle.match_meaning.specs.Meaning.{Meant, Node, own, wet, some_of, Tries}

-- a lake with its own right side o, if it has a rule, and its alternative symbols ss, at place q of the text s, what it lists at depth d
pub data Ways (g : Meant) (s : List ℕ) (d : ℕ) (o : Option (Exp ℕ)) (ss : List (Exp ℕ)) (q : ℕ) : ℕ → Type 0 where
  -- its own right side succeeds
  own-takes : {k : ℕ} {ns : List Node} → Tries g s d (own o) q (suc k) ns → Ways g s d o ss q 1
  -- it fails, or there is none, and water succeeds
  water-takes : {k : ℕ} {ns ms : List Node} → Tries g s d (own o) q 0 ns → Tries g s d (wet g.water) q (suc k) ms → Ways g s d o ss q 2
  -- both fail, no alternative symbol matches, and there is a byte
  skips : {ns ms ks : List Node} → Tries g s d (own o) q 0 ns → Tries g s d (wet g.water) q 0 ms → Tries g s d (some_of ss) q 0 ks → q < length s
      → Ways g s d o ss q 3
  -- both fail, and an alternative symbol matches, or there is no byte
  stops : {k : ℕ} {ns ms ks : List Node} → Tries g s d (own o) q 0 ns → Tries g s d (wet g.water) q 0 ms → Tries g s d (some_of ss) q (suc k) ks
      → Ways g s d o ss q 0
  ends : {ns ms : List Node} → Tries g s d (own o) q 0 ns → Tries g s d (wet g.water) q 0 ms → length s ≤ q → Ways g s d o ss q 0
