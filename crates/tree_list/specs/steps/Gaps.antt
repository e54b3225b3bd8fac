-- The gaps of Preorder.antt in an array: that of depth d in words 2 d and 2 d + 1. Assumes nothing: these are definitions.
use Rattle.std.specs.Prelude.{ℕ, ◌+◌, ◌*◌, ◌<◌, ◌≡◌, Bool, true, ◌&&◌, List, leb, ltb, length, get_or, set}
use Rattle.read_tokens.specs.Bounds.{depth_bound}
use Rattle.match_meaning.specs.Meaning.{Node}
use Rattle.tree_list.specs.Preorder.{Gap, gap_at, root_first, admits, gaps_behind}

pub record Gapped (gs : List Gap) (ws : List ℕ) : Type 0 where
  pub from : (d : ℕ) → d < length gs → get_or ws (2 * d) 0 ≡ (gap_at gs d).from
  pub to : (d : ℕ) → d < length gs → get_or ws (2 * d + 1) 0 ≡ (gap_at gs d).to

-- node k may be x where so many depths are possible and the gap of its own is g
unfoldable pub admits_in : ℕ → ℕ → Gap → ℕ → Node → Bool
admits_in R depths g k x =
    root_first k x.depth
    && (leb x.depth depth_bound
    && (ltb x.depth depths
    && (ltb x.symbol R
    && (leb x.start x.end
    && (leb g.from x.start
    && leb x.end g.to)))))

-- the array of the gaps behind x: the one of its own depth ends where it did
abbrev pub opened_in : List ℕ → Node → List ℕ
opened_in ws x = set (set (set ws (2 * x.depth) x.end) (2 * x.depth + 2) x.start) (2 * x.depth + 3) x.end

-- node k is let in or not; the array holds the gaps behind it afterwards
pub record Admitted (R k : ℕ) (x : Node) (depths : ℕ) (old new : List ℕ) (b : Bool) : Type 0 where
  pub answer : (gs : List Gap) → length gs ≡ depths → Gapped gs old → b ≡ admits R gs k x
  pub opens : (gs : List Gap) → length gs ≡ depths → Gapped gs old → b ≡ true → Gapped (gaps_behind gs x) new
