-- The token language as an automaton with one counter, the open parentheses; refusals 2 and 3 found in one walk from the left.
-- That the automaton's place is the document's is proved in laws/. Assumes nothing: these are definitions.
use Rattle.std.specs.Prelude.{ℕ, zero, suc, Bool, true, false, cond, List, [], ◌∷◌, leb, ltb, length}
use Rattle.std.proofs.Math.Option.{Option, none, some}
use Rattle.read_tokens.specs.declared.Mode.{Mode}
use Rattle.read_tokens.specs.Token.{Symbol, Leaf, Tok, Lexeme, name, lake, any, literal, class, symbol, leaf, pre, suf, arrow, slash, opens, closes, bad}
use Rattle.read_tokens.specs.Bounds.{name_bound, literal_bound, open_bound}

-- the number counts the open parentheses
pub data State : Type 0 where
  start : State  -- nothing read
  head : State  -- after the first left side
  need : ℕ → State  -- after an arrow, a slash or (
  bound : ℕ → State  -- after a prefix
  prim : ℕ → State  -- after a primary
  part : ℕ → State  -- after a suffix
  maybe : ℕ → State  -- after a symbol that follows a part: a part itself, or the next left side

unfoldable pub close : ℕ → Option State
close zero = none
close (suc d) = some (prim d)

unfoldable pub new_rule : ℕ → Option State
new_rule zero = some (need 0)
new_rule (suc d) = none

-- where a part has ended
unfoldable pub after : ℕ → Tok → Option State
after d (symbol h) = some (maybe d)
after d (leaf x) = some (prim d)
after d (pre x) = some (bound d)
after d (suf x) = none
after d arrow = none
after d slash = some (need d)
after d opens = some (need (suc d))
after d closes = close d
after d bad = none

unfoldable pub step : State → Tok → Option State
step start (symbol h) = some head
step start (leaf x) = none
step start (pre x) = none
step start (suf x) = none
step start arrow = none
step start slash = none
step start opens = none
step start closes = none
step start bad = none
step head (symbol h) = none
step head (leaf x) = none
step head (pre x) = none
step head (suf x) = none
step head arrow = some (need 0)
step head slash = none
step head opens = none
step head closes = none
step head bad = none
step (need d) (symbol h) = some (prim d)
step (need d) (leaf x) = some (prim d)
step (need d) (pre x) = some (bound d)
step (need d) (suf x) = none
step (need d) arrow = none
step (need d) slash = none
step (need d) opens = some (need (suc d))
step (need d) closes = none
step (need d) bad = none
step (bound d) (symbol h) = some (prim d)
step (bound d) (leaf x) = some (prim d)
step (bound d) (pre x) = none
step (bound d) (suf x) = none
step (bound d) arrow = none
step (bound d) slash = none
step (bound d) opens = some (need (suc d))
step (bound d) closes = none
step (bound d) bad = none
step (prim d) (symbol h) = after d (symbol h)
step (prim d) (leaf x) = after d (leaf x)
step (prim d) (pre x) = after d (pre x)
step (prim d) (suf x) = some (part d)
step (prim d) arrow = none
step (prim d) slash = after d slash
step (prim d) opens = after d opens
step (prim d) closes = after d closes
step (prim d) bad = none
step (part d) t = after d t
step (maybe d) (symbol h) = after d (symbol h)
step (maybe d) (leaf x) = after d (leaf x)
step (maybe d) (pre x) = after d (pre x)
step (maybe d) (suf x) = some (part d)
step (maybe d) arrow = new_rule d
step (maybe d) slash = after d slash
step (maybe d) opens = after d opens
step (maybe d) closes = after d closes
step (maybe d) bad = none

abbrev pub is_zero : ℕ → Bool
is_zero zero = true
is_zero (suc d) = false

unfoldable pub accepting : State → Bool
accepting start = false
accepting head = false
accepting (need d) = false
accepting (bound d) = false
accepting (prim d) = is_zero d
accepting (part d) = is_zero d
accepting (maybe d) = is_zero d

abbrev pub stepped : Option State → Tok → Option State
stepped none t = none
stepped (some s) t = step s t

-- the state after all tokens; none: dead on the way
unfoldable pub state_after : Option State → List Tok → Option State
state_after o [] = o
state_after o (t ∷ l) = state_after (stepped o t) l

abbrev pub accepts : Option State → Bool
accepts none = false
accepts (some s) = accepting s

abbrev pub alive : Option State → ℕ → (State → Option ℕ) → Option ℕ
alive none k f = some k
alive (some s) k f = f s

-- the first dead token's place, counted from k; the end's, where it may not be the end; none: a grammar
unfoldable pub offends_from : ℕ → State → List Tok → Option ℕ
offends_from k s [] = cond (accepting s) none (some k)
offends_from k s (t ∷ l) = alive (step s t) k (λ s'. offends_from (suc k) s' l)

abbrev pub offends : List Tok → Option ℕ
offends ts = offends_from 0 start ts

-- tokens that end a grammar from here
abbrev pub closing : ℕ → List Tok
closing zero = []
closing (suc d) = closes ∷ closing d

unfoldable pub finish : State → List Tok
finish start = symbol (name (97 ∷ [])) ∷ arrow ∷ leaf any ∷ []
finish head = arrow ∷ leaf any ∷ []
finish (need d) = leaf any ∷ closing d
finish (bound d) = leaf any ∷ closing d
finish (prim d) = closing d
finish (part d) = closing d
finish (maybe d) = closing d

-- ── refusal 3: "name, literal or parenthesis over its bound" ──
abbrev pub name_of : Symbol → List ℕ
name_of (name w) = w
name_of (lake w) = w

abbrev pub long_leaf : Leaf → Bool
long_leaf any = false
long_leaf (literal l) = ltb literal_bound (length l)
long_leaf (class l) = false

-- a token over its bound, where d parentheses are open before it
unfoldable pub over : Mode → ℕ → Tok → Bool
over m d (symbol h) = ltb (name_bound m) (length (name_of h))
over m d (leaf x) = long_leaf x
over m d (pre x) = false
over m d (suf x) = false
over m d arrow = false
over m d slash = false
over m d opens = leb (open_bound m) d
over m d closes = false
over m d bad = false

-- how many parentheses are open in a state
abbrev pub open_in : State → ℕ
open_in start = 0
open_in head = 0
open_in (need d) = d
open_in (bound d) = d
open_in (prim d) = d
open_in (part d) = d
open_in (maybe d) = d

-- neither 2 nor 3; 2 at token k, or at the text's end where k is the number of tokens; 3 at token k
pub data Judged : Type 0 where
  fine : Judged
  syntax wide : ℕ → Judged

abbrev pub judge_by : Option State → Bool → ℕ → (State → Judged) → Judged
judge_by none w k f = syntax k
judge_by (some s) true k f = wide k
judge_by (some s) false k f = f s

-- "2 and 3: the leftmost place decides, then 2"
unfoldable pub judge : Mode → ℕ → State → List Lexeme → Judged
judge m k s [] = cond (accepting s) fine (syntax k)
judge m k s (x ∷ l) = judge_by (step s x.is) (over m (open_in s) x.is) k (λ s'. judge m (suc k) s' l)

-- the byte at which token k begins; n, the text's length, for the text's end
unfoldable pub place_of : ℕ → List Lexeme → ℕ → ℕ
place_of n [] k = n
place_of n (x ∷ l) zero = x.start
place_of n (x ∷ l) (suc k) = place_of n l k
