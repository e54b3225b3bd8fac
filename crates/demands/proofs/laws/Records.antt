-- The records of the symbols, and line and column (02, par. 2): their rows in their order, and what the records say. Assumes nothing.
use Rattle.std.specs.Prelude.{ℕ, zero, suc, ◌≤◌, ◌≡◌, true, not, List, [], ◌∷◌, ◌++◌, leb, ltb, length}
use Rattle.std.proofs.Math.Path.{refl, ap}
use Rattle.std.proofs.Common.{sym, subst, leb-true, le-leb}
use Rattle.std.proofs.Math.Option.{Option, none, some}
use Rattle.read_tokens.specs.declared.Mode.{Mode}
use Rattle.read_tokens.specs.Bounds.{input_bound}
use Rattle.grammar.specs.Refusal.{Refusal, refuse_if, refuse_at, ◌▸◌}
use Rattle.prepare.specs.Prepare.{Prepared, prepared, refuses}
use Rattle.prepare.specs.laws.Chain.{assoc}
use Rattle.match_meaning.specs.Meaning.{Node}
use Rattle.tree_list.specs.Preorder.{bad_node, bad_from, whole}
use Rattle.tree_list.specs.Tree.{IsTree, words_in}
use Rattle.tree_list.specs.laws.Bad.{good-parts}
use Rattle.tree_list.specs.laws.ListTree.{list-tree}
use Rattle.tree_summary.specs.declared.Summary.{Summary}
use Rattle.tree_summary.specs.Summary.{any_of, count_of, summary_of}
use Rattle.tree_summary.specs.laws.OneRecord.{one-record}
use Rattle.tree_summary.specs.laws.Outermost.{outermost-list}
use Rattle.tree_summary.specs.laws.Records.{absent-zero}
use Rattle.gurkenmond.specs.Calls.{refuses_length, refuses_records, summarise_after, summarise_of, spot_after, spot_of}
use Rattle.demands.specs.Rows.{known}
use Rattle.demands.specs.Checks.{record_checks, spot_checks}
use Rattle.demands.specs.Demands.{Refuses, Records}
use Rattle.demands.proofs.laws.Chain.{Tells, accepts, join, over-told, missing}
use Rattle.demands.proofs.laws.Exactly.{by-check}
use Rattle.demands.proofs.laws.Json.{list-told, words-read}
use Rattle.demands.proofs.laws.Refusals.{one-to-eight}

module _ (m : Mode) (t : List ℕ) where
  -- 1 to 8, 9, 15, then 17
  pub records-chain : (s ws : List ℕ) (rs : List Summary) → Tells (record_checks m t s ws rs) (refuses m t ▸ refuses_records (prepared m t) s ws rs)
  records-chain s ws rs =
      let R : ℕ = known m t in
      let a : Option Refusal = refuses_length s in
      let b : Option Refusal = refuse_at 15 (bad_node R (length s) ws) in
      let c : Option Refusal = refuse_if (ltb (length rs) R) 17 R in
      subst (Tells (record_checks m t s ws rs)) (sym (ap (λ (o : Option Refusal). refuses m t ▸ o) (assoc a b c)))
      (join (refuses m t) (a ▸ (b ▸ c)) (one-to-eight m t)
      (λ e. join a (b ▸ c) (over-told 9 input_bound input_bound (length s))
      (λ g. join b c (list-told m t s ws) (λ h. over-told 17 R (length rs) R))))

  pub records-exactly : (s ws : List ℕ) (rs : List Summary)
      → Refuses (summarise_of m t s ws rs).verdict (record_checks m t s ws rs) ((summarise_of m t s ws rs).records ≡ rs)
  unfolding summarise_of
  records-exactly s ws rs =
      let p : Prepared = prepared m t in
      let o : Option Refusal = refuses m t ▸ refuses_records p s ws rs in
      by-check (records-chain s ws rs) (summarise_after o p s ws rs).verdict ((summarise_after o p s ws rs).records ≡ rs) (go o)
      (λ r e. ap (λ (c : Option Refusal). (summarise_after c p s ws rs).records) e)
    where
      go : (c : Option Refusal) → (summarise_after c (prepared m t) s ws rs).verdict ≡ c
      go none = refl
      go (some r) = refl

-- ── line and column: 9, then 14 ──
spot-chain : (s : List ℕ) (q : ℕ) → Tells (spot_checks s q) (refuses_length s ▸ refuse_if (not (leb q (length s))) 14 0)
spot-chain s q =
    join (refuses_length s) (refuse_if (not (leb q (length s))) 14 0) (over-told 9 input_bound input_bound (length s))
    (λ e. missing 14 (leb q (length s)) (q ≤ length s) (leb-true q (length s)) (le-leb q (length s)))

pub spot-exactly : (s : List ℕ) (q : ℕ) → Refuses (spot_of s q).verdict (spot_checks s q) (Unit {0})
unfolding spot_of
spot-exactly s q =
    let o : Option Refusal = refuses_length s ▸ refuse_if (not (leb q (length s))) 14 0 in
    by-check (spot-chain s q) (spot_after o s q).verdict (Unit {0}) (go o) (λ r e. tt)
  where
    go : (c : Option Refusal) → (spot_after c s q).verdict ≡ c
    go none = refl
    go (some r) = refl

-- ── what the records say ──
good-nodes : (R n : ℕ) (xs : List Node) → IsTree R n (words_in xs) → bad_from R (whole n) 0 xs ≡ none
good-nodes R n xs t =
    subst (λ (l : List Node). bad_from R (whole n) 0 l ≡ none) (words-read xs) (good-parts R n (words_in xs) ((list-tree R n (words_in xs)).1 t)).list

none-there : (k : ℕ) → (any_of k ≡ true → ⊥) → k ≡ 0
none-there zero f = refl
none-there (suc k) f = absurd (f refl)

pub records : Records
unfolding summarise_of summary_of
records = record {
  answered = λ m t s ws rs z. ap (λ (o : Option Refusal). summarise_after o (prepared m t) s ws rs) (accepts (records-chain m t s ws rs) z);
  added = λ R n xs x t r. one-record R n xs x (good-nodes R n (xs ++ (x ∷ [])) t) r;
  outermost = λ R n ws x r. outermost-list R n r ws x;
  zeros = λ n xs r f. absent-zero n xs r (none-there (count_of r xs) f);
}
