-- Node words as code reads them. Assumes nothing.
use Prim.Native.Nat.{ℕ, suc, ◌-◌, ◌*◌, ◌/◌, ◌≤◌, ◌<◌}
use Rattle.std.specs.Prelude.{◌≡◌, Bool, false, ◌&&◌, length, drop}
use Rattle.std.proofs.Math.Path.{refl, ap}
use Rattle.std.proofs.Common.{◌∙◌, sym as flip, arith}
use Rattle.std.proofs.Math.Bool.{true, cond}
use mathlib.Core.List.{List, []}
use Rattle.std.proofs.Math.Dec.{leb}
use Rattle.std.proofs.Math.ListN.{take}
use borrow.Author.Tests.{le-leb, lt-leb, leb-true}
use Rattle.base_facts.specs.laws.Bools.{and_parts}
use Rattle.read_tokens.specs.Bounds.{node_words}
use Rattle.match_list.specs.Nodes.{node_word, node_at, sound_at, part_of, node_text, node_start}
use Rattle.match_list.specs.steps.Spans.{Spans}

module _ (ws : List ℕ) (k n : ℕ) where
  pub sound-short : length ws / node_words ≤ k → false ≡ sound_at ws k n
  unfolding sound_at node_words
  sound-short h = rw (lt-leb (node_words * suc k) (length ws) (omega (arith, h)))

  pub sound-inside : true ≡ sound_at ws k n → k < length ws / node_words
  unfolding sound_at node_words
  sound-inside h = omega (arith, leb-true (node_words * suc k) (length ws) (and_parts (leb (node_words * suc k) (length ws)) _ (flip h)).0)

  module _ (a b : ℕ) (whole : k < length ws / node_words) (start : a ≡ node_word ws k 1) (end : b ≡ node_word ws k 2) where
    pub sound-turned : b < a → false ≡ sound_at ws k n
    unfolding sound_at node_at node_words
    sound-turned h = rw (le-leb (node_words * suc k) (length ws) (omega (arith, whole)), ← start, ← end, lt-leb a b h)

    pub sound-else : a ≤ b → leb b n ≡ sound_at ws k n
    unfolding sound_at node_at node_words
    sound-else h = rw (le-leb (node_words * suc k) (length ws) (omega (arith, whole)), ← start, ← end, le-leb a b h)

    pub span-is : true ≡ sound_at ws k n → Spans ws k n a b
    unfolding sound_at node_at node_words node_text node_start
    span-is h =
        let e : leb (node_words * suc k) (length ws) ≡ true = le-leb (node_words * suc k) (length ws) (omega (arith, whole)) in
        let f : (leb a b && leb b n) ≡ true = rw (start, end) (and_parts (leb (node_words * suc k) (length ws)) _ (flip h)).1 in
        record {
          forward = leb-true a b (and_parts (leb a b) (leb b n) f).0;
          inside = leb-true b n (and_parts (leb a b) (leb b n) f).1;
          from = start ∙ ap (λ (x : Bool). cond x (node_at ws k).start 0) h;
          text = λ s g.
              ap (λ (x : ℕ). take (x - a) (drop a s)) end ∙ ap (λ (x : ℕ). take (node_word ws k 2 - x) (drop x s)) start
              ∙ ap (λ (x : Bool). cond x (part_of s (node_at ws k)) []) (h ∙ ap (sound_at ws k) (flip g));
        }

  pub span-sound : (a b : ℕ) → a ≡ node_word ws k 1 → b ≡ node_word ws k 2 → true ≡ sound_at ws k n → Spans ws k n a b
  span-sound a b start end h = span-is a b (sound-inside h) start end h

  pub span_none : false ≡ sound_at ws k n → Spans ws k n 0 0
  unfolding node_text node_start
  span_none h =
      record {
        forward = omega arith;
        inside = omega arith;
        from = ap (λ (x : Bool). cond x (node_at ws k).start 0) h;
        text = λ s g. nothing s ∙ ap (λ (x : Bool). cond x (part_of s (node_at ws k)) []) (h ∙ ap (sound_at ws k) (flip g));
      }
    where
      nothing : (s : List ℕ) → take (0 - 0) (drop 0 s) ≡ []
      nothing s = refl
