-- A sequence may be nested to the right, and a choice too: results and node lists are the same. "Choice and sequence associate to the left" (01, Notation),
-- but a matcher goes along them from left to right.
-- Assumes nothing.
use Rattle.std.specs.Prelude.{ℕ, suc, ◌+◌, ◌≡◌, ◌↔◌, List}
use Rattle.std.proofs.Common.{sym, subst, append_assoc, arith}
use Rattle.grammar.specs.Exp.{Exp, seq, alt}
use Rattle.match_meaning.specs.Meaning.{Meant, Node, seq-fails, seq-fails-later, seq-takes, alt-first, alt-second, Derives}

module _ (g : Meant) (s : List ℕ) where
  place : {d x p q : ℕ} {e : Exp ℕ} {ns : List Node} → p ≡ q → Derives g s d e p x ns → Derives g s d e q x ns
  place {d} {x} {e = e} {ns = ns} h t = subst (λ (i : ℕ). Derives g s d e i x ns) h t

  result : {d p x y : ℕ} {e : Exp ℕ} {ns ms : List Node} → x ≡ y → ns ≡ ms → Derives g s d e p x ns → Derives g s d e p y ms
  result {d} {p} {x} {y} {e} {ns} {ms} h k t = subst (λ (l : List Node). Derives g s d e p y l) k (subst (λ (i : ℕ). Derives g s d e p i ns) h t)

  right : {d p x : ℕ} {a b c : Exp ℕ} {ns : List Node} → Derives g s d (seq (seq a b) c) p x ns → Derives g s d (seq a (seq b c)) p x ns
  right (seq-fails (seq-fails t)) = seq-fails t
  right (seq-fails (seq-fails-later t u)) = seq-fails-later t (seq-fails u)
  right (seq-fails-later {p = p} (seq-takes {m = m} {k = k} t u) v) = seq-fails-later t (seq-fails-later u (place {p = p + (m + k)} {q = p + m + k} (omega arith) v))
  right (seq-takes {p = p} {k = j} {ms = cs} (seq-takes {m = m} {k = k} {ns = as'} {ms = bs} t u) v) =
      result {x = suc (m + (k + j))} {y = suc (m + k + j)} (omega arith) (sym (append_assoc as' bs cs)) (seq-takes t (seq-takes u (place {p = p + (m + k)} {q = p + m + k} (omega arith) v)))

  left : {d p x : ℕ} {a b c : Exp ℕ} {ns : List Node} → Derives g s d (seq a (seq b c)) p x ns → Derives g s d (seq (seq a b) c) p x ns
  left (seq-fails t) = seq-fails (seq-fails t)
  left (seq-fails-later t (seq-fails u)) = seq-fails (seq-fails-later t u)
  left (seq-fails-later {p = p} {m = m} t (seq-fails-later {m = k} u v)) = seq-fails-later (seq-takes t u) (place {p = p + m + k} {q = p + (m + k)} (omega arith) v)
  left (seq-takes {p = p} {m = m} {ns = as'} t (seq-takes {m = k} {k = j} {ns = bs} {ms = cs} u v)) =
      result {x = suc (m + k + j)} {y = suc (m + (k + j))} (omega arith) (append_assoc as' bs cs) (seq-takes (seq-takes t u) (place {p = p + m + k} {q = p + (m + k)} (omega arith) v))

  pub seq-assoc : (d p x : ℕ) (a b c : Exp ℕ) (ns : List Node) → Derives g s d (seq (seq a b) c) p x ns ↔ Derives g s d (seq a (seq b c)) p x ns
  seq-assoc d p x a b c ns = (λ t. right t, λ t. left t)

  alt-right : {d p x : ℕ} {a b c : Exp ℕ} {ns : List Node} → Derives g s d (alt (alt a b) c) p x ns → Derives g s d (alt a (alt b c)) p x ns
  alt-right (alt-first (alt-first t)) = alt-first t
  alt-right (alt-first (alt-second t u)) = alt-second t (alt-first u)
  alt-right (alt-second (alt-second t u) v) = alt-second t (alt-second u v)

  alt-left : {d p x : ℕ} {a b c : Exp ℕ} {ns : List Node} → Derives g s d (alt a (alt b c)) p x ns → Derives g s d (alt (alt a b) c) p x ns
  alt-left (alt-first t) = alt-first (alt-first t)
  alt-left (alt-second t (alt-first u)) = alt-first (alt-second t u)
  alt-left (alt-second t (alt-second u v)) = alt-second (alt-second t u) v

  pub alt-assoc : (d p x : ℕ) (a b c : Exp ℕ) (ns : List Node) → Derives g s d (alt (alt a b) c) p x ns ↔ Derives g s d (alt a (alt b c)) p x ns
  alt-assoc d p x a b c ns = (λ t. alt-right t, λ t. alt-left t)
