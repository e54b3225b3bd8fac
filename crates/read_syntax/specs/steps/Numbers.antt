-- The automaton on numbers, as code runs it: control 0 to 6 (7: dead), the open parentheses, classes of tokens 0 to 8; and what a token's kind says of
-- its class and of its bound. Assumes nothing: these are definitions.
use Rattle.std.specs.Prelude.{ℕ, zero, suc, ◌+◌, ◌*◌, ◌<◌, ◌≡◌, Bool, true, false, cond, List, [], ◌∷◌, leb, ltb, get_or}
use Rattle.std.proofs.Math.Option.{Option, none, some}
use Rattle.read_tokens.specs.declared.Mode.{Mode}
use Rattle.read_tokens.specs.declared.Kind.{Kind}
use Rattle.read_tokens.specs.declared.Kind.TheVariants.{
  End,
  Name,
  Lake,
  Any,
  Literal,
  Class,
  Amp,
  Bang,
  Query,
  Asterisk,
  Cross,
  Arrow,
  Slash,
  Opens,
  Closes,
  Bad,
}
use Rattle.read_tokens.specs.Token.{Tok, Lexeme, name, any, amp, query, symbol, leaf, pre, suf, arrow, slash, opens, closes, bad}
use Rattle.read_tokens.specs.Bounds.{name_bound, literal_bound, open_bound}
use Rattle.grammar.specs.Refusal.{Refusal, refusal}
use Rattle.read_syntax.specs.Machine.{State, start, head, need, bound, prim, part, maybe, step, accepting, over, open_in}

-- a token of each class
unfoldable pub tok_of : ℕ → Tok
tok_of zero = symbol (name [])
tok_of (suc zero) = leaf any
tok_of (suc (suc zero)) = pre amp
tok_of (suc (suc (suc zero))) = suf query
tok_of (suc (suc (suc (suc zero)))) = arrow
tok_of (suc (suc (suc (suc (suc zero))))) = slash
tok_of (suc (suc (suc (suc (suc (suc zero)))))) = opens
tok_of (suc (suc (suc (suc (suc (suc (suc zero))))))) = closes
tok_of (suc (suc (suc (suc (suc (suc (suc (suc m)))))))) = bad

-- the class of a token
unfoldable pub class_of : Tok → ℕ
class_of (symbol h) = 0
class_of (leaf x) = 1
class_of (pre x) = 2
class_of (suf x) = 3
class_of arrow = 4
class_of slash = 5
class_of opens = 6
class_of closes = 7
class_of bad = 8

-- the class of a token's kind
abbrev pub kind_class : Kind → ℕ
kind_class End = 0
kind_class Name = 0
kind_class Lake = 0
kind_class Any = 1
kind_class Literal = 1
kind_class Class = 1
kind_class Amp = 2
kind_class Bang = 2
kind_class Query = 3
kind_class Asterisk = 3
kind_class Cross = 3
kind_class Arrow = 4
kind_class Slash = 5
kind_class Opens = 6
kind_class Closes = 7
kind_class Bad = 8

unfoldable pub state_of : ℕ → ℕ → State
state_of zero d = start
state_of (suc zero) d = head
state_of (suc (suc zero)) d = need d
state_of (suc (suc (suc zero))) d = bound d
state_of (suc (suc (suc (suc zero)))) d = prim d
state_of (suc (suc (suc (suc (suc zero))))) d = part d
state_of (suc (suc (suc (suc (suc (suc m)))))) d = maybe d

unfoldable pub code : Option State → ℕ
code none = 7
code (some start) = 0
code (some head) = 1
code (some (need d)) = 2
code (some (bound d)) = 3
code (some (prim d)) = 4
code (some (part d)) = 5
code (some (maybe d)) = 6

-- the control after a token; of the open parentheses only whether there are any counts
unfoldable pub next_of : ℕ → ℕ → ℕ → ℕ
next_of c z k = code (step (state_of c z) (tok_of k))

-- that of each control and class, at its place
abbrev pub Moves : List ℕ → Type 0
Moves l = (z c k : ℕ) → z < 2 → c < 7 → k < 9 → get_or l ((z * 7 + c) * 9 + k) 0 ≡ next_of c z k

abbrev pub deep : ℕ → ℕ
deep zero = 0
deep (suc d) = 1

abbrev pub one_fewer : ℕ → ℕ
one_fewer zero = zero
one_fewer (suc d) = d

-- the open parentheses after a token
unfoldable pub moved : ℕ → ℕ → ℕ
moved d zero = d
moved d (suc zero) = d
moved d (suc (suc zero)) = d
moved d (suc (suc (suc zero))) = d
moved d (suc (suc (suc (suc zero)))) = 0
moved d (suc (suc (suc (suc (suc zero))))) = d
moved d (suc (suc (suc (suc (suc (suc zero)))))) = suc d
moved d (suc (suc (suc (suc (suc (suc (suc zero))))))) = one_fewer d
moved d (suc (suc (suc (suc (suc (suc (suc (suc m)))))))) = d

unfoldable pub decode : ℕ → ℕ → Option State
decode zero d = some start
decode (suc zero) d = some head
decode (suc (suc zero)) d = some (need d)
decode (suc (suc (suc zero))) d = some (bound d)
decode (suc (suc (suc (suc zero)))) d = some (prim d)
decode (suc (suc (suc (suc (suc zero))))) d = some (part d)
decode (suc (suc (suc (suc (suc (suc zero)))))) d = some (maybe d)
decode (suc (suc (suc (suc (suc (suc (suc m))))))) d = none

-- a token over its bound, by its kind and size, where d parentheses are open
abbrev pub over_by : Mode → ℕ → Kind → ℕ → Bool
over_by m d End z = false
over_by m d Name z = ltb (name_bound m) z
over_by m d Lake z = ltb (name_bound m) z
over_by m d Any z = false
over_by m d Literal z = ltb literal_bound z
over_by m d Class z = false
over_by m d Amp z = false
over_by m d Bang z = false
over_by m d Query z = false
over_by m d Asterisk z = false
over_by m d Cross z = false
over_by m d Arrow z = false
over_by m d Slash z = false
over_by m d Opens z = leb (open_bound m) d
over_by m d Closes z = false
over_by m d Bad z = false

-- the walk with byte places: n is the text's length
abbrev pub judged_by : Option State → Bool → ℕ → (State → Option Refusal) → Option Refusal
judged_by none w i f = some (refusal 2 i)
judged_by (some s) true i f = some (refusal 3 i)
judged_by (some s) false i f = f s

unfoldable pub judged_at : Mode → ℕ → State → List Lexeme → Option Refusal
judged_at m n s [] = cond (accepting s) none (some (refusal 2 n))
judged_at m n s (x ∷ l) = judged_by (step s x.is) (over m (open_in s) x.is) x.start (λ s'. judged_at m n s' l)
