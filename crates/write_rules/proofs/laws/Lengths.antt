-- How long a written text can be. Assumes nothing.
use Rattle.std.specs.Prelude.{ℕ, suc, ◌+◌, ◌*◌, ◌≤◌, ◌<◌, refl, Bool, true, false, cond, List, [], ◌∷◌, ◌++◌, eqb, leb, ltb, length}
use Rattle.std.proofs.Common.{ap, arith, leb→le, length-append, eq-eqb}
use Rattle.std.proofs.Math.Option.{Option, none, some}
use Rattle.read_tokens.specs.declared.Mode.{Mode}
use Rattle.read_tokens.specs.declared.Mode.TheVariants.{Plain}
use Rattle.read_tokens.specs.Token.{Symbol, name, lake, Leaf, any, literal, class}
use Rattle.read_tokens.specs.Bounds.{text_bound, name_bound, expression_bound, symbol_bound, literal_bound, raw_from}
use Rattle.read_tokens.specs.Chars.{Range, range}
use Rattle.read_tokens.specs.laws.All.{all-at}
use Rattle.read_tokens.specs.laws.Bytes.{Bytes}
use Rattle.grammar.specs.Exp.{Exp, sym, ter, seq, alt, opt, star, plus, ahead, never, Rule, size}
use Rattle.grammar.specs.Numbers.{expressions_of}
use Rattle.write_rules.specs.Writing.{byte_text, lit_char, class_char, lit_chars, runs, run_text, runs_text, leaf_text, symbol_text, level, wrap, put, expr_text, rule_text, text}
use Rattle.write_rules.proofs.laws.Bodies.{Fine, AllFine, runs-fine}
use Rattle.write_rules.proofs.laws.Terminals.{FineLeaf}

lit-long : (c : ℕ) → c < 256 → length (lit_char c) ≤ 4
unfolding lit_char byte_text raw_from
lit-long c h = leb→le (length (lit_char c)) 4 (all-at 256 (λ x. leb (length (lit_char x)) 4) tt c h)

class-long : (c : ℕ) → c < 256 → length (class_char c) ≤ 4
unfolding class_char byte_text raw_from
class-long c h = leb→le (length (class_char c)) 4 (all-at 256 (λ x. leb (length (class_char x)) 4) tt c h)

lits-long : (l : List ℕ) → Bytes l → length (lit_chars l) ≤ 4 * length l
unfolding lit_chars
lits-long [] h = omega arith
lits-long (c ∷ l) h = rw (length-append (lit_char c) (lit_chars l)) (omega (arith, lit-long c h.0, lits-long l h.1))

-- the text of a run of one byte has at most 4 bytes, of a longer one 9
abbrev due : Bool → ℕ
due true = 4
due false = 9

run_long : (r : Range) → Fine r → length (run_text r) ≤ due (eqb r.lo r.hi)
unfolding run_text
run_long r f = go (eqb r.lo r.hi)
  where
    u : length (class_char r.lo) ≤ 4
    u = class-long r.lo (omega (arith, f.order, f.small))

    go : (x : Bool) → length (cond x (class_char r.lo) (class_char r.lo ++ (45 ∷ class_char r.hi))) ≤ due x
    go true = u
    go false = rw (length-append (class_char r.lo) (45 ∷ class_char r.hi)) (omega (arith, u, class-long r.hi f.small))

abbrev due_o : Option Range → ℕ
due_o none = 0
due_o (some r) = due (eqb r.lo r.hi)

due-low : (b : Bool) → 4 ≤ due b
due-low true = omega arith
due-low false = omega arith

due-high : (b : Bool) → due b ≤ 9
due-high true = omega arith
due-high false = omega arith

runs-long : (o : Option Range) (i : ℕ) (l : List Bool) → AllFine (runs o i l) → length (runs_text (runs o i l)) ≤ due_o o + 5 * length l
unfolding runs runs_text
runs-long none i [] f = omega arith
runs-long (some r) i [] f = rw (length-append (run_text r) []) (omega (arith, run_long r f.0))
runs-long none i (false ∷ l) f = omega (arith, runs-long none (suc i) l f)
runs-long none i (true ∷ l) f = omega (arith, runs-long (some (range i i)) (suc i) l f, ap due (eq-eqb i i refl))
runs-long (some r) i (false ∷ l) f =
    rw (length-append (run_text r) (runs_text (runs none (suc i) l))) (omega (arith, run_long r f.0, runs-long none (suc i) l f.1))
runs-long (some r) i (true ∷ l) f =
    omega (arith, runs-long (some (range r.lo i)) (suc i) l f, due-high (eqb r.lo i), due-low (eqb r.lo r.hi))

-- literals within their bound (01, Notation)
abbrev pub Short : Leaf → Type 0
Short any = Unit {0}
Short (literal l) = length l ≤ literal_bound
Short (class l) = Unit {0}

pub leaf-length : (x : Leaf) → FineLeaf x → Short x → length (leaf_text x) ≤ 1282
unfolding leaf_text literal_bound
leaf-length any f h = omega arith
leaf-length (literal []) f h = absurd f
leaf-length (literal (c ∷ l)) f h = omega (arith, length-append (lit_chars (c ∷ l)) (39 ∷ []), lits-long (c ∷ l) f)
leaf-length (class l) f h =
    omega (arith, length-append (runs_text (runs none 0 l)) (93 ∷ []), runs-long none 0 l (runs-fine none 0 l tt (omega (arith, f.0))), f.0)

-- names within the bound of plain mode, which is the longer one
abbrev pub Brief : Symbol → Type 0
Brief (name w) = length w ≤ name_bound Plain
Brief (lake w) = length w ≤ name_bound Plain

symbol-length : (h : Symbol) → Brief h → length (symbol_text h) ≤ 40
unfolding symbol_text name_bound
symbol-length (name w) b = omega arith
symbol-length (lake w) b = omega (arith, length-append w (62 ∷ []))

abbrev pub Bounded : Exp Symbol → Type 0
Bounded (sym h) = Brief h
Bounded (ter x) = FineLeaf x × Short x
Bounded (seq a b) = Bounded a × Bounded b
Bounded (alt a b) = Bounded a × Bounded b
Bounded (opt a) = Bounded a
Bounded (star a) = Bounded a
Bounded (plus a) = Bounded a
Bounded (ahead a) = Bounded a
Bounded (never a) = Bounded a

abbrev pub BoundedAll : List Rule → Type 0
BoundedAll [] = Unit {0}
BoundedAll (r ∷ rs) = Brief r.left × Bounded r.right × BoundedAll rs

put-length : (k : ℕ) (e : Exp Symbol) → length (put k e (expr_text e)) ≤ length (expr_text e) + 2
put-length k e = go (ltb (level e) k) (expr_text e)
  where
    go : (x : Bool) (l : List ℕ) → length (wrap x l) ≤ length l + 2
    go true l = omega (arith, length-append l (41 ∷ []))
    go false l = omega arith

-- of n expressions at most (n + 1) / 2 are leaves
expr-length : (e : Exp Symbol) → Bounded e → 2 * length (expr_text e) ≤ 1296 * size e + 1282
unfolding expr_text size
expr-length (sym h) b = omega (arith, symbol-length h b)
expr-length (ter x) b = omega (arith, leaf-length x b.0 b.1)
expr-length (seq a b) h =
    omega (arith, length-append (put 1 a (expr_text a)) (32 ∷ put 2 b (expr_text b)), put-length 1 a, put-length 2 b, expr-length a h.0, expr-length b h.1)
expr-length (alt a b) h =
    omega (arith, length-append (put 0 a (expr_text a)) (32 ∷ 47 ∷ 32 ∷ put 1 b (expr_text b)), put-length 0 a, put-length 1 b, expr-length a h.0, expr-length b h.1)
expr-length (opt a) h = omega (arith, length-append (put 4 a (expr_text a)) (63 ∷ []), put-length 4 a, expr-length a h)
expr-length (star a) h = omega (arith, length-append (put 4 a (expr_text a)) (42 ∷ []), put-length 4 a, expr-length a h)
expr-length (plus a) h = omega (arith, length-append (put 4 a (expr_text a)) (43 ∷ []), put-length 4 a, expr-length a h)
expr-length (ahead a) h = omega (arith, put-length 3 a, expr-length a h)
expr-length (never a) h = omega (arith, put-length 3 a, expr-length a h)

rule-length : (r : Rule) → Brief r.left → Bounded r.right → 2 * length (rule_text r) ≤ 1296 * size r.right + 1372
unfolding rule_text
rule-length r x y =
    let e : Exp Symbol = r.right in
    omega (arith, length-append (symbol_text r.left) (32 ∷ 60 ∷ 45 ∷ 32 ∷ (expr_text e ++ (10 ∷ []))), length-append (expr_text e) (10 ∷ []), symbol-length r.left x, expr-length e y)

pub text-length : (g : List Rule) → BoundedAll g → 2 * length (text g) ≤ 1296 * expressions_of g + 1372 * length g
unfolding text expressions_of
text-length [] b = omega arith
text-length (r ∷ rs) b = omega (arith, length-append (rule_text r) (text rs), rule-length r b.0 b.1, text-length rs b.2)

-- so a plain text within the bounds of plain mode is not too long to be read: refusal 1 cannot come
pub not-too-long : (g : List Rule) → BoundedAll g → expressions_of g ≤ expression_bound Plain → length g ≤ symbol_bound → length (text g) ≤ text_bound Plain
unfolding expression_bound symbol_bound text_bound
not-too-long g b h k = omega (arith, text-length g b)
