-- The meaning of a match (01, Meaning of a match: "PEG's, at a position, on a prefix of the text"), with its nodes, in one relation for grammars
-- with lakes and without. Lakes are given by rules of their own, not by their translation, so that the translation can be held to them.
-- Assumes nothing: these are definitions.
use Rattle.std.specs.Prelude.{ℕ, suc, ◌+◌, ◌≤◌, ◌<◌, ◌≡◌, Bool, true, false, List, [], ◌∷◌, ◌++◌, get_or, length}
use Rattle.std.proofs.Math.Option.{Option, some, none}
use Rattle.read_tokens.specs.Token.{any, literal, class}
use Rattle.grammar.specs.Exp.{Exp, sym, ter, seq, alt, opt, star, plus, ahead, never}
use Rattle.grammar.specs.Lakes.{step_one, step_two}

-- "A node is four u32 words: symbol, start, end, depth (the start symbol's is 0)"
pub record Node : Type 0 where
  pub symbol : ℕ
  pub start : ℕ
  pub end : ℕ
  pub depth : ℕ

abbrev pub nd : ℕ → ℕ → ℕ → ℕ → Node
nd r p q d = record { symbol = r; start = p; end = q; depth = d }

-- what a symbol stands for: a right side; or a lake, with its own right side if it has a rule, and its alternative symbols in order:
-- "only the s are the lake's alternative symbols, in the match too" (01, Lakes made plain, step 2)
pub data SymbolBody : Type 0 where
  rule : Exp ℕ → SymbolBody
  lake : Option (Exp ℕ) → List (Exp ℕ) → SymbolBody

-- the symbols' bodies by number, and the right side of `water` if there is such a rule
pub record Meant : Type 0 where
  pub body : ℕ → SymbolBody
  pub water : Option (Exp ℕ)

-- the bytes stand in the text at p
abbrev pub Here : List ℕ → ℕ → List ℕ → Type 0
Here s p [] = Unit
Here s p (b ∷ bs) = (p < length s) × (get_or s p 0 ≡ b) × Here s (suc p) bs

-- a byte of the class stands in the text at p; m are the class's 256 marks
abbrev pub Marked : List ℕ → ℕ → List Bool → Type 0
Marked s p m = (p < length s) × (get_or m (get_or s p 0) false ≡ true)

-- what is tried at a place: an expression, a symbol's body, a lake's own right side, water, a lake's alternative symbols one after the other
pub data Ask : Type 0 where
  exp : Exp ℕ → Ask
  inside : SymbolBody → Ask
  own wet : Option (Exp ℕ) → Ask
  some_of : List (Exp ℕ) → Ask

-- `Tries g s d q p x ns`: q at place p of the text s, its nodes at depth d, fails (x is 0) or takes m bytes (x is suc m); ns is its node list.
-- "The node list is preorder: one node for each symbol that took part in the success, none from under `&` or `!`, none from abandoned alternatives"
pub data Tries (g : Meant) (s : List ℕ) : ℕ → Ask → ℕ → ℕ → List Node → Type 0 where
  any-takes : {d p : ℕ} → p < length s → Tries g s d (exp (ter any)) p 2 []
  any-fails : {d p : ℕ} → length s ≤ p → Tries g s d (exp (ter any)) p 0 []
  lit-takes : {d p : ℕ} {bs : List ℕ} → Here s p bs → Tries g s d (exp (ter (literal bs))) p (suc (length bs)) []
  lit-fails : {d p : ℕ} {bs : List ℕ} → (Here s p bs → ⊥) → Tries g s d (exp (ter (literal bs))) p 0 []
  cls-takes : {d p : ℕ} {m : List Bool} → Marked s p m → Tries g s d (exp (ter (class m))) p 2 []
  cls-fails : {d p : ℕ} {m : List Bool} → (Marked s p m → ⊥) → Tries g s d (exp (ter (class m))) p 0 []
  -- a symbol that took part in the success is a node, and what its body lists is one deeper
  sym-takes : {d r p m : ℕ} {ns : List Node} → Tries g s (suc d) (inside (g.body r)) p (suc m) ns → Tries g s d (exp (sym r)) p (suc m) (nd r p (p + m) d ∷ ns)
  sym-fails : {d r p : ℕ} {ns : List Node} → Tries g s (suc d) (inside (g.body r)) p 0 ns → Tries g s d (exp (sym r)) p 0 []
  seq-fails : {d p : ℕ} {a b : Exp ℕ} {ns : List Node} → Tries g s d (exp a) p 0 ns → Tries g s d (exp (seq a b)) p 0 []
  seq-fails-later : {d p m : ℕ} {a b : Exp ℕ} {ns ms : List Node} → Tries g s d (exp a) p (suc m) ns → Tries g s d (exp b) (p + m) 0 ms
      → Tries g s d (exp (seq a b)) p 0 []
  seq-takes : {d p m k : ℕ} {a b : Exp ℕ} {ns ms : List Node} → Tries g s d (exp a) p (suc m) ns → Tries g s d (exp b) (p + m) (suc k) ms
      → Tries g s d (exp (seq a b)) p (suc (m + k)) (ns ++ ms)
  alt-first : {d p m : ℕ} {a b : Exp ℕ} {ns : List Node} → Tries g s d (exp a) p (suc m) ns → Tries g s d (exp (alt a b)) p (suc m) ns
  alt-second : {d p x : ℕ} {a b : Exp ℕ} {ns ms : List Node} → Tries g s d (exp a) p 0 ns → Tries g s d (exp b) p x ms → Tries g s d (exp (alt a b)) p x ms
  -- "A repeat ends at the first failing round or the first round that takes nothing; that round is dropped with its nodes"
  star-ends : {d p : ℕ} {a : Exp ℕ} {ns : List Node} → Tries g s d (exp a) p 0 ns → Tries g s d (exp (star a)) p 1 []
  star-idles : {d p : ℕ} {a : Exp ℕ} {ns : List Node} → Tries g s d (exp a) p 1 ns → Tries g s d (exp (star a)) p 1 []
  star-goes : {d p m k : ℕ} {a : Exp ℕ} {ns ms : List Node} → Tries g s d (exp a) p (suc (suc m)) ns
      → Tries g s d (exp (star a)) (p + suc m) (suc k) ms → Tries g s d (exp (star a)) p (suc (suc m + k)) (ns ++ ms)
  -- "but the first round of `+` counts"
  plus-fails : {d p : ℕ} {a : Exp ℕ} {ns : List Node} → Tries g s d (exp a) p 0 ns → Tries g s d (exp (plus a)) p 0 []
  plus-takes : {d p m k : ℕ} {a : Exp ℕ} {ns ms : List Node} → Tries g s d (exp a) p (suc m) ns → Tries g s d (exp (star a)) (p + m) (suc k) ms
      → Tries g s d (exp (plus a)) p (suc (m + k)) (ns ++ ms)
  -- `?` is no repeat: an empty success keeps its nodes
  opt-skips : {d p : ℕ} {a : Exp ℕ} {ns : List Node} → Tries g s d (exp a) p 0 ns → Tries g s d (exp (opt a)) p 1 []
  opt-takes : {d p m : ℕ} {a : Exp ℕ} {ns : List Node} → Tries g s d (exp a) p (suc m) ns → Tries g s d (exp (opt a)) p (suc m) ns
  ahead-fails : {d p : ℕ} {a : Exp ℕ} {ns : List Node} → Tries g s d (exp a) p 0 ns → Tries g s d (exp (ahead a)) p 0 []
  ahead-takes : {d p m : ℕ} {a : Exp ℕ} {ns : List Node} → Tries g s d (exp a) p (suc m) ns → Tries g s d (exp (ahead a)) p 1 []
  never-takes : {d p : ℕ} {a : Exp ℕ} {ns : List Node} → Tries g s d (exp a) p 0 ns → Tries g s d (exp (never a)) p 1 []
  never-fails : {d p m : ℕ} {a : Exp ℕ} {ns : List Node} → Tries g s d (exp a) p (suc m) ns → Tries g s d (exp (never a)) p 0 []
  by-rule : {d p x : ℕ} {e : Exp ℕ} {ns : List Node} → Tries g s d (exp e) p x ns → Tries g s d (inside (rule e)) p x ns
  -- "how a lake matches at a position (0 not, 1 by its rule, 2 by water, 3 by one skipped byte)": a byte is skipped where no alternative symbol matches
  by-own : {d p m : ℕ} {o : Option (Exp ℕ)} {ss : List (Exp ℕ)} {ns : List Node} → Tries g s d (own o) p (suc m) ns
      → Tries g s d (inside (lake o ss)) p (suc m) ns
  by-water : {d p m : ℕ} {o : Option (Exp ℕ)} {ss : List (Exp ℕ)} {ks ns : List Node} → Tries g s d (own o) p 0 ks
      → Tries g s d (wet g.water) p (suc m) ns → Tries g s d (inside (lake o ss)) p (suc m) ns
  by-skip : {d p : ℕ} {o : Option (Exp ℕ)} {ss : List (Exp ℕ)} {ks js is : List Node} → Tries g s d (own o) p 0 ks
      → Tries g s d (wet g.water) p 0 js → Tries g s d (some_of ss) p 0 is → p < length s → Tries g s d (inside (lake o ss)) p 2 []
  stopped : {d p m : ℕ} {o : Option (Exp ℕ)} {ss : List (Exp ℕ)} {ks js is : List Node} → Tries g s d (own o) p 0 ks
      → Tries g s d (wet g.water) p 0 js → Tries g s d (some_of ss) p (suc m) is → Tries g s d (inside (lake o ss)) p 0 []
  at-end : {d p : ℕ} {o : Option (Exp ℕ)} {ss : List (Exp ℕ)} {ks js is : List Node} → Tries g s d (own o) p 0 ks
      → Tries g s d (wet g.water) p 0 js → Tries g s d (some_of ss) p 0 is → length s ≤ p → Tries g s d (inside (lake o ss)) p 0 []
  own-none : {d p : ℕ} → Tries g s d (own none) p 0 []
  own_is : {d p x : ℕ} {e : Exp ℕ} {ns : List Node} → Tries g s d (exp e) p x ns → Tries g s d (own (some e)) p x ns
  -- "With no `water` rule, append nothing" (02, §4): then there is no water anywhere, not at the text's end either
  dry : {d p : ℕ} → Tries g s d (wet none) p 0 []
  -- no node "for `water` where a lake tries its right side"
  wet-is : {d p x : ℕ} {w : Exp ℕ} {ns : List Node} → Tries g s d (exp w) p x ns → Tries g s d (wet (some w)) p x ns
  none_of : {d p : ℕ} → Tries g s d (some_of []) p 0 []
  this-one : {d p m : ℕ} {a : Exp ℕ} {ss : List (Exp ℕ)} {ns : List Node} → Tries g s d (exp a) p (suc m) ns → Tries g s d (some_of (a ∷ ss)) p (suc m) ns
  later-one : {d p x : ℕ} {a : Exp ℕ} {ss : List (Exp ℕ)} {ks ns : List Node} → Tries g s d (exp a) p 0 ks → Tries g s d (some_of ss) p x ns
      → Tries g s d (some_of (a ∷ ss)) p x ns

abbrev pub Derives : Meant → List ℕ → ℕ → Exp ℕ → ℕ → ℕ → List Node → Type 0
Derives g s d e p x ns = Tries g s d (exp e) p x ns

-- a body made plain (01, Lakes made plain, steps 1 and 2; 02, §4)
unfoldable pub plain_body : Option (Exp ℕ) → SymbolBody → Exp ℕ
plain_body w (rule e) = e
plain_body w (lake o ss) = step_two (step_one w o) ss

abbrev pub plain_of : Meant → Meant
plain_of g = record { body = λ (r : ℕ). rule (plain_body g.water (g.body r)); water = none }
