-- A node list as RFC 8259 text: "each node an object with members name (a lake's in its brackets), start, end, text and children (an array), in that
-- order, without blanks" (02, par. 1). Assumes nothing: these are definitions.
use Rattle.std.specs.Prelude.{ℕ, zero, suc, ◌+◌, ◌-◌, ◌/◌, ◌%◌, cond, ◌&&◌, List, [], ◌∷◌, ◌++◌, eqb, leb, ltb}
use Rattle.read_tokens.specs.Token.{Symbol}
use Rattle.match_meaning.specs.Meaning.{Node, nd}
use Rattle.match_list.specs.Nodes.{part_of}
use Rattle.write_rules.specs.Writing.{symbol_text}
use Rattle.tree_list.specs.Tree.{Trees, none, tree}

-- ── strings: "Bytes below 32 and from 127 up become `\u00XX` with capital hex, `"` and `\` take a backslash" ──
abbrev pub hex_digit : ℕ → ℕ
hex_digit x = cond (ltb x 10) (48 + x) (55 + x)

unfoldable pub char_json : ℕ → List ℕ
char_json c =
    cond (eqb c 34) (92 ∷ 34 ∷ [])
    (cond (eqb c 92) (92 ∷ 92 ∷ [])
    (cond (leb 32 c && ltb c 127) (c ∷ []) (92 ∷ 117 ∷ 48 ∷ 48 ∷ hex_digit (c / 16) ∷ hex_digit (c % 16) ∷ [])))

unfoldable pub chars_json : List ℕ → List ℕ
chars_json [] = []
chars_json (c ∷ l) = char_json c ++ chars_json l

-- ── numbers: RFC 8259, without leading zeros. A place in an input has five digits at most ──
abbrev pub digit_of : ℕ → ℕ → ℕ
digit_of k n = 48 + n / k % 10

unfoldable pub number_json : ℕ → List ℕ
number_json n =
    cond (ltb n 10) (digit_of 1 n ∷ [])
    (cond (ltb n 100) (digit_of 10 n ∷ digit_of 1 n ∷ [])
    (cond (ltb n 1000) (digit_of 100 n ∷ digit_of 10 n ∷ digit_of 1 n ∷ [])
    (cond (ltb n 10000) (digit_of 1000 n ∷ digit_of 100 n ∷ digit_of 10 n ∷ digit_of 1 n ∷ [])
    (digit_of 10000 n ∷ digit_of 1000 n ∷ digit_of 100 n ∷ digit_of 10 n ∷ digit_of 1 n ∷ []))))

-- ── the bytes between ──
-- {"name":"
abbrev pub before_name : List ℕ
before_name = 123 ∷ 34 ∷ 110 ∷ 97 ∷ 109 ∷ 101 ∷ 34 ∷ 58 ∷ 34 ∷ []

-- "
abbrev pub quote : List ℕ
quote = 34 ∷ []

-- ,"start":
abbrev pub before_start : List ℕ
before_start = 44 ∷ 34 ∷ 115 ∷ 116 ∷ 97 ∷ 114 ∷ 116 ∷ 34 ∷ 58 ∷ []

-- ,"end":
abbrev pub before_end : List ℕ
before_end = 44 ∷ 34 ∷ 101 ∷ 110 ∷ 100 ∷ 34 ∷ 58 ∷ []

-- ,"text":"
abbrev pub before_text : List ℕ
before_text = 44 ∷ 34 ∷ 116 ∷ 101 ∷ 120 ∷ 116 ∷ 34 ∷ 58 ∷ 34 ∷ []

-- ","children":[
abbrev pub before_children : List ℕ
before_children = 34 ∷ 44 ∷ 34 ∷ 99 ∷ 104 ∷ 105 ∷ 108 ∷ 100 ∷ 114 ∷ 101 ∷ 110 ∷ 34 ∷ 58 ∷ 91 ∷ []

-- ]}
abbrev pub behind_children : List ℕ
behind_children = 93 ∷ 125 ∷ []

-- ,
abbrev pub comma : List ℕ
comma = 44 ∷ []

-- between a tree and those behind it
abbrev pub between : Trees → List ℕ
between none = []
between (tree r p q cs ts) = comma

-- c nodes are closed
unfoldable pub closings : ℕ → List ℕ
closings zero = []
closings (suc c) = behind_children ++ closings c

-- behind a node of depth d, before those that follow
unfoldable pub behind_node : ℕ → List Node → List ℕ
behind_node d [] = closings (suc d)
behind_node d (y ∷ ys) = cond (eqb y.depth (suc d)) [] (closings (suc d - y.depth) ++ comma)

-- f are the symbols by number, s is the input
module _ (f : ℕ → Symbol) (s : List ℕ) where
  -- a node up to its children
  unfoldable pub head_json : Node → List ℕ
  head_json x =
      before_name ++ (symbol_text (f x.symbol) ++ (quote
      ++ (before_start ++ (number_json x.start
      ++ (before_end ++ (number_json x.end
      ++ (before_text ++ (chars_json (part_of s x) ++ before_children))))))))

  -- ── the text of trees: each an object with its children in it, `,` between two ──
  unfoldable pub trees_json : Trees → List ℕ
  trees_json none = []
  trees_json (tree r p q cs ts) = head_json (nd r p q 0) ++ (trees_json cs ++ (behind_children ++ (between ts ++ trees_json ts)))

  -- ── the same of a node list, from its depths alone ──
  unfoldable pub json_text : List Node → List ℕ
  json_text [] = []
  json_text (x ∷ xs) = head_json x ++ (behind_node x.depth xs ++ json_text xs)
