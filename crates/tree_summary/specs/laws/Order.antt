-- In a preorder list a node begins at or behind the begin of each node before it, and lies behind it or ends in it. Assumes nothing.
use Rattle.std.specs.Prelude.{ℕ, suc, ◌≤◌, ◌<◌, ◌≡◌, true, ◌⊎◌, length}
use Rattle.std.proofs.Math.Logic.{inl, inr}
use Rattle.std.proofs.Common.{⊎_elim, arith}
use mathlib.Core.List.{List, [], ◌∷◌, ◌++◌}
use Rattle.std.proofs.Math.Option.{none}
use Rattle.base_facts.specs.laws.Numbers.{lt-or-ge}
use Rattle.match_meaning.specs.Meaning.{Node}
use Rattle.tree_list.specs.Preorder.{Gap, gap, gap_at, admits, gaps_behind, bad_from, whole}
use Rattle.tree_list.specs.laws.Gaps.{Stands, admits-parts, gaps_behind-own}
use Rattle.tree_list.specs.laws.Bad.{goes_on}
use Rattle.tree_summary.specs.laws.Known.{above, each-behind}

-- what lies in the gap comes after y, and lies behind it or ends in it
pub record After (y : Node) (g : Gap) : Type 0 where
  pub begins : y.start ≤ g.from
  pub apart : (y.end ≤ g.from) ⊎ (g.to ≤ y.end)

-- x comes after y
abbrev pub Follows : Node → Node → Type 0
Follows y x = After y (gap x.start x.end)

-- .. after all of these
unfoldable pub FollowsAll : List Node → Node → Type 0
FollowsAll [] x = Unit {0}
FollowsAll (y ∷ ys) x = Follows y x × FollowsAll ys x

narrower : (y : Node) (g inner : Gap) → After y g → g.from ≤ inner.from → inner.to ≤ g.to → After y inner
narrower y g inner a from to =
    record {
      begins = omega (arith, a.begins);
      apart = ⊎_elim (λ (h : y.end ≤ g.from). inl (omega arith)) (λ (h : g.to ≤ y.end). inr (omega arith)) a.apart;
    }

-- ── the gaps: all come after y; a deeper one lies before ──
Past : List Gap → Node → Type 0
Past gs y = (e : ℕ) → e < length gs → After y (gap_at gs e)

Nested : List Gap → Type 0
Nested gs = (e d : ℕ) → e < d → d < length gs → (gap_at gs d).to ≤ (gap_at gs e).from

whole-nested : (n : ℕ) → Nested (whole n)
unfolding Nested
whole-nested n e d h k = absurd (omega (arith, h, k))

module _ (R : ℕ) (gs : List Gap) (k : ℕ) (x : Node) (stands : Stands R gs k x) where
  module _ (nested : Nested gs) where
    nested-behind : Nested (gaps_behind gs x)
    unfolding Nested
    nested-behind e d h l = each-behind R gs k x stands (λ c g. e < c → g.to ≤ (gap_at (gaps_behind gs x) e).from) over own child d l h
      where
        over : (c : ℕ) → c < x.depth → e < c → (gap_at gs c).to ≤ (gap_at (gaps_behind gs x) e).from
        over c b a = rw (above R gs k x stands e (omega arith)) (nested e c a (omega (arith, stands.possible)))

        own : e < x.depth → (gap_at gs x.depth).to ≤ (gap_at (gaps_behind gs x) e).from
        own a = rw (above R gs k x stands e a) (nested e x.depth a stands.possible)

        child : e < suc x.depth → x.end ≤ (gap_at (gaps_behind gs x) e).from
        child a = ⊎_elim (λ (b : e < x.depth). omega (arith, own b, stands.inside)) (λ (b : x.depth ≤ e). at_own (omega arith)) (lt-or-ge e x.depth)
          where
            at_own : e ≡ x.depth → x.end ≤ (gap_at (gaps_behind gs x) e).from
            at_own same = rw (same, gaps_behind-own gs x (omega (arith, stands.possible))) (omega arith)

    -- they come after x
    past-own : Past (gaps_behind gs x) x
    unfolding Nested Past
    past-own =
        each-behind R gs k x stands (λ e g. After x g)
        (λ e b. let h : (gap_at gs x.depth).to ≤ (gap_at gs e).from = nested e x.depth b stands.possible in
        record { begins = omega (arith, stands.forward, stands.inside); apart = inl (omega (arith, stands.inside)) })
        (record { begins = stands.forward; apart = inl (omega arith) })
        (record { begins = omega arith; apart = inr (omega arith) })

  -- they come after what came before x, and so does x
  module _ (y : Node) (past : Past gs y) where
    follows-here : Follows y x
    unfolding Past
    follows-here = narrower y (gap_at gs x.depth) (gap x.start x.end) (past x.depth stands.possible) stands.behind stands.inside

    past-kept : Past (gaps_behind gs x) y
    unfolding Past
    past-kept =
        each-behind R gs k x stands (λ e g. After y g) (λ e b. past e (omega (arith, stands.possible)))
        (narrower y (gap_at gs x.depth) (gap x.end (gap_at gs x.depth).to) (past x.depth stands.possible)
        (omega (arith, stands.behind, stands.forward)) (omega arith))
        follows-here

-- ── along the list ──
module _ (R : ℕ) where
  last-follows : (gs : List Gap) (k : ℕ) (ys : List Node) (y x : Node) → Past gs y → bad_from R gs k (ys ++ (x ∷ [])) ≡ none → Follows y x
  last-follows gs k [] y x past e = follows-here R gs k x (admits-parts R gs k x (goes_on R gs k x [] e).0) y past
  last-follows gs k (z ∷ ys) y x past e =
      let h : (admits R gs k z ≡ true) × (bad_from R (gaps_behind gs z) (suc k) (ys ++ (x ∷ [])) ≡ none) = goes_on R gs k z (ys ++ (x ∷ [])) e in
      last-follows (gaps_behind gs z) (suc k) ys y x (past-kept R gs k z (admits-parts R gs k z h.0) y past) h.1

  all-follow : (gs : List Gap) (k : ℕ) (xs : List Node) (x : Node) → Nested gs → bad_from R gs k (xs ++ (x ∷ [])) ≡ none → FollowsAll xs x
  unfolding FollowsAll
  all-follow gs k [] x nested e = tt
  all-follow gs k (y ∷ ys) x nested e =
      let h : (admits R gs k y ≡ true) × (bad_from R (gaps_behind gs y) (suc k) (ys ++ (x ∷ [])) ≡ none) = goes_on R gs k y (ys ++ (x ∷ [])) e in
      let s : Stands R gs k y = admits-parts R gs k y h.0 in (
        last-follows (gaps_behind gs y) (suc k) ys y x (past-own R gs k y s nested) h.1,
        all-follow (gaps_behind gs y) (suc k) ys x (nested-behind R gs k y s nested) h.1,
      )

-- the last node of a good list comes after all others
pub order : (R n : ℕ) (xs : List Node) (x : Node) → bad_from R (whole n) 0 (xs ++ (x ∷ [])) ≡ none → FollowsAll xs x
order R n xs x e = all-follow R (whole n) 0 xs x (whole-nested n) e
