-- Refusal 15: "words that are no preorder list (whole nodes; one root, first; depth at most 255 and one more than the last at most; known symbols; spans
-- within the input, children inside their parent, siblings in order without overlap), place the first bad node" (02, par. 1).
-- Assumes nothing: these are definitions.
use Rattle.std.specs.Prelude.{ℕ, zero, suc, ◌*◌, Bool, cond, ◌&&◌, List, [], ◌∷◌, ◌++◌, eqb, leb, ltb, length, get_or, take}
use Rattle.std.proofs.Math.Option.{Option, none, some}
use Rattle.read_tokens.specs.Bounds.{depth_bound, node_words}
use Rattle.match_meaning.specs.Meaning.{Node}
use Rattle.match_list.specs.Nodes.{nodes_at, room_of}

-- where the next node of a depth may lie: behind the sibling before it, in its parent
pub record Gap : Type 0 where
  pub from : ℕ
  pub to : ℕ

abbrev pub gap : ℕ → ℕ → Gap
gap a b = record { from = a; to = b }

-- gs are the gaps of the depths that the next node can have, that of depth 0 first
abbrev pub gap_at : List Gap → ℕ → Gap
gap_at gs d = get_or gs d (gap 0 0)

-- depth 0 for the first node and for no other
abbrev pub root_first : ℕ → ℕ → Bool
root_first zero d = eqb d 0
root_first (suc k) d = leb 1 d

-- node k may be x
unfoldable pub admits : ℕ → List Gap → ℕ → Node → Bool
admits R gs k x =
    root_first k x.depth
    && (leb x.depth depth_bound
    && (ltb x.depth (length gs)
    && (ltb x.symbol R
    && (leb x.start x.end
    && (leb (gap_at gs x.depth).from x.start
    && leb x.end (gap_at gs x.depth).to)))))

-- the gaps behind x: a sibling begins at its end, a child lies in it
unfoldable pub gaps_behind : List Gap → Node → List Gap
gaps_behind gs x = take x.depth gs ++ (gap x.end (gap_at gs x.depth).to ∷ gap x.start x.end ∷ [])

-- the first node that may not stand where it stands; the list's first is node k
unfoldable pub bad_from : ℕ → List Gap → ℕ → List Node → Option ℕ
bad_from R gs k [] = none
bad_from R gs k (x ∷ xs) = cond (admits R gs k x) (bad_from R (gaps_behind gs x) (suc k) xs) (some k)

-- the root lies in the input
abbrev pub whole : ℕ → List Gap
whole n = gap 0 n ∷ []

abbrev pub or_else : Option ℕ → Option ℕ → Option ℕ
or_else (some k) o = some k
or_else none o = o

-- "whole nodes": no part of one behind the last, and at least one
abbrev pub cut_off : List ℕ → Option ℕ
cut_off ws = cond (leb 1 (room_of ws) && eqb (node_words * room_of ws) (length ws)) none (some (room_of ws))

-- of words for R symbols and an input of n bytes
unfoldable pub bad_node : ℕ → ℕ → List ℕ → Option ℕ
bad_node R n ws = or_else (bad_from R (whole n) 0 (nodes_at ws 0 (room_of ws))) (cut_off ws)
