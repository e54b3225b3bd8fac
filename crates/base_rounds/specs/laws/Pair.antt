-- One set: two words, of r and t bits. Assumes nothing.
use Rattle.std.specs.Prelude.{◌≡◌, refl, List, [], ◌∷◌, ℕ, zero, suc, ◌+◌, ◌^◌, ◌≤◌, ◌<◌, length, get_or}
use Rattle.std.proofs.Common.{sym, ap, ap₂, ◌∙◌, subst, le_refl, le_trans, arith, ext_get_or, pow_pos}
use Rattle.std.proofs.lemmas.Nat.{or_lt}
use Rattle.base_words.specs.Set.{bit, union_of, empty, ones}
use Rattle.base_words.specs.laws.Members.{two-words}
use Rattle.base_words.specs.laws.Order.{Sub, ones-le, ones-mono, ones-strict, sub-or-l, sub-or-r, or-sub, bit-none}
pub use Rattle.base_rounds.specs.Sets.{Set2, In2}
use Rattle.base_rounds.specs.laws.Fix.{Lattice}
use Rattle.base_rounds.specs.laws.Cells.{Joins}

module _ (r t : ℕ) where
  abbrev pub count : List ℕ → ℕ
  count s = ones r (get_or s 0 0) + ones t (get_or s 1 0)

  pub strict2 : (s u : List ℕ) → Set2 r t s → Set2 r t u → In2 s u → count u ≤ count s → u ≡ s
  strict2 s u g h k l =
      let m = ones-mono r (get_or s 0 0) (get_or u 0 0) k.first in
      let n = ones-mono t (get_or s 1 0) (get_or u 1 0) k.second in
      two-words u s h.two g.two
      (ones-strict r (get_or s 0 0) (get_or u 0 0) g.first h.first k.first (omega arith))
      (ones-strict t (get_or s 1 0) (get_or u 1 0) g.second h.second k.second (omega arith))

  abbrev pub pair : Lattice (List ℕ)
  pair = record {
    Le = In2;
    Good = Set2 r t;
    le_rfl = λ x. record { first = λ k. le_refl (bit (get_or x 0 0) k); second = λ k. le_refl (bit (get_or x 1 0) k) };
    size = count;
    top = r + t;
    bounded = λ x g. omega (arith, ones-le r (get_or x 0 0), ones-le t (get_or x 1 0));
    strict = strict2;
  }

  pub pair-joins : Joins pair union_of empty
  pair-joins = record {
    trans = λ x y z p q. record { first = λ k. le_trans (p.first k) (q.first k); second = λ k. le_trans (p.second k) (q.second k) };
    size_mono = λ x y p. omega (arith, ones-mono r (get_or x 0 0) (get_or y 0 0) p.first, ones-mono t (get_or x 1 0) (get_or y 1 0) p.second);
    join-l = λ x y g h. record { first = sub-or-l (get_or x 0 0) (get_or y 0 0); second = sub-or-l (get_or x 1 0) (get_or y 1 0) };
    join-r = λ x y g h. record { first = sub-or-r (get_or x 0 0) (get_or y 0 0); second = sub-or-r (get_or x 1 0) (get_or y 1 0) };
    join-least = λ x y z g h p q. record {
      first = or-sub (get_or x 0 0) (get_or y 0 0) (get_or z 0 0) p.first q.first;
      second = or-sub (get_or x 1 0) (get_or y 1 0) (get_or z 1 0) p.second q.second;
    };
    join-good = λ x y g h. record {
      two = refl;
      first = or_lt r (get_or x 0 0) (get_or y 0 0) g.first h.first;
      second = or_lt t (get_or x 1 0) (get_or y 1 0) g.second h.second;
    };
    bot-good = record { two = refl; first = pow_pos r; second = pow_pos t };
    bot-le = λ x g. record { first = λ k. rw (bit-none k) (omega arith); second = λ k. rw (bit-none k) (omega arith) };
  }
