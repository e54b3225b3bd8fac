-- The cases of document 01 ("Cases (P = proved)") and of 02, and the worked examples of the readings, in one table. Assumes nothing: these are definitions.
use Rattle.std.specs.Prelude.{ℕ, true, false, List, [], ◌∷◌, ◌++◌}
use Prim.Native.String.{String}
use Rattle.read_tokens.specs.declared.Mode.TheVariants.{Lake, Plain}
use Rattle.gurkenmond.specs.Answers.{refused, nomatch, value}
use Rattle.cases.specs.Ask.{Asked, Said, Case, bytes, reads, rounds, skips, own, plain, alt, sets, matches, lakes, says, counted, words}
use Rattle.tree_summary.specs.declared.Summary.{Summary}
use Rattle.tree_summary.specs.Summary.{absent}
use Rattle.cases.specs.Ask.{texts, lists, sums, spots, three, written, listed, summed, lent}

abbrev pub is : Asked → Said → Case
is a s = record { asked = a; said = s }

-- G of source document 000
abbrev G : String
G = "block <- '{' stmt* '}'\nstmt <- expr_stmt / block\nexpr_stmt <- <elake>* ';'\n"

-- symbols a, c, <d>, <b>, <c>
abbrev loose : String
loose = "a <- <b> <c> 'x' <b> c <- 'y' <d> <- 'z'"

-- the nodes of G's match, and their text
abbrev blocks : List ℕ
blocks = 0 ∷ 0 ∷ 4 ∷ 0 ∷ 1 ∷ 1 ∷ 3 ∷ 1 ∷ 2 ∷ 1 ∷ 3 ∷ 2 ∷ 3 ∷ 1 ∷ 2 ∷ 3 ∷ []

-- a block in a block (02, par. 2)
abbrev nested : List ℕ
nested =
    0 ∷ 0 ∷ 8 ∷ 0 ∷ 1 ∷ 1 ∷ 3 ∷ 1 ∷ 2 ∷ 1 ∷ 3 ∷ 2 ∷ 3 ∷ 1 ∷ 2 ∷ 3 ∷ 1 ∷ 3 ∷ 7 ∷ 1 ∷ 0 ∷ 3 ∷ 7 ∷ 2 ∷ 1 ∷ 4 ∷ 6 ∷ 3 ∷ 2 ∷ 4 ∷ 6 ∷ 4 ∷ 3 ∷ 4 ∷ 5 ∷ 5 ∷ []

abbrev sum : ℕ → ℕ → ℕ → ℕ → Summary
sum k b i j = record { nodes = k; bytes = b; first = i; last = j; present = true }

abbrev blocks_text : List ℕ
blocks_text =
    bytes "{\"name\":\"block\",\"start\":0,\"end\":4,\"text\":\"{a;}\",\"children\":[" ++
    (bytes "{\"name\":\"stmt\",\"start\":1,\"end\":3,\"text\":\"a;\",\"children\":[" ++
    (bytes "{\"name\":\"expr_stmt\",\"start\":1,\"end\":3,\"text\":\"a;\",\"children\":[" ++
    (bytes "{\"name\":\"<elake>\",\"start\":1,\"end\":2,\"text\":\"a\",\"children\":[]}]}]}]}")))

abbrev pair : String
pair = "a <- b b b <- 'x'"

abbrev pair_text : List ℕ
pair_text =
    bytes "{\"name\":\"a\",\"start\":0,\"end\":2,\"text\":\"xx\",\"children\":[" ++
    (bytes "{\"name\":\"b\",\"start\":0,\"end\":1,\"text\":\"x\",\"children\":[]}," ++
    (bytes "{\"name\":\"b\",\"start\":1,\"end\":2,\"text\":\"x\",\"children\":[]}]}"))

-- read and written the same
abbrev kept : String → Case
kept t = is (own Lake t) (written (bytes t))

-- of a text in both modes: as it is written, or refused
abbrev both : String → Said → List Case
both t x = is (own Lake t) x ∷ is (own Plain t) x ∷ []

abbrev as_text : String → Said
as_text t = written (bytes t)

abbrev bad : ℕ → ℕ → Said
bad k p = says (refused k p)

-- bytes, blanks, names, literals and classes (01, Notation), each in lake and in plain mode
abbrev lexical : List Case
lexical =
    both "a\t<-\r\n'x'" (as_text "a <- 'x'\n") ++
    both "a<-'x'" (as_text "a <- 'x'\n") ++
    both "a\u{b}<- 'x'" (bad 2 1) ++
    both "a <- #c\r'x'" (as_text "a <- 'x'\n") ++
    both "a <- #c" (bad 2 7) ++
    both "a1 <- 'x'" (as_text "a1 <- 'x'\n") ++
    both "1a <- 'x'" (bad 2 0) ++
    both "a <- 'x" (bad 2 5) ++
    both "a <- ''" (bad 2 5) ++
    both "a <- \"\\\"\"" (as_text "a <- '\"'\n") ++
    both "a <- '\\q'" (bad 2 5) ++
    both "a <- '\\1'" (as_text "a <- '\\001'\n") ++
    both "a <- '\\18'" (as_text "a <- '\\0018'\n") ++
    both "a <- '\\300'" (as_text "a <- '\\0300'\n") ++
    both "a <- [x" (bad 2 5) ++
    both "a <- [a-]" (bad 2 5) ++
    both "a <- [--]" (bad 2 5) ++
    both "a <- []a]" (bad 2 5) ++
    both "a <- [b-a]" (bad 2 5) ++
    both "a <- [a-z-]" (as_text "a <- [\\055a-z]\n") ++
    both "a <- [ba]" (as_text "a <- [a-b]\n") ++
    both "a <- [ac]" (as_text "a <- [ac]\n") ++
    both "a <- [\\101-C]" (as_text "a <- [A-C]\n") ++
    -- where the modes differ
    (is (own Lake "a <- <x>") (as_text "a <- <x>\n") ∷
    is (own Plain "a <- <x>") (bad 2 5) ∷
    is (own Lake "lake__x <- 'y'") (bad 4 0) ∷
    is (own Plain "lake__x <- 'y'") (as_text "lake__x <- 'y'\n") ∷
    is (matches Lake "a <- [^a]" "a" 2 4) (listed nomatch 0 []) ∷
    is (matches Lake "a <- [^a]" "b" 2 4) (listed (value 1) 1 (0 ∷ 0 ∷ 1 ∷ 0 ∷ [])) ∷
    is (matches Plain "a <- [^a]" "a" 2 4) (listed (value 1) 1 (0 ∷ 0 ∷ 1 ∷ 0 ∷ [])) ∷
    is (matches Plain "a <- [^a]" "b" 2 4) (listed nomatch 0 []) ∷
    [])

unfoldable pub cases : List Case
cases =
    -- ALT of 10 is `;`, `block`, `}`: symbol 0, terminals 2 and 3; of 3 and 5 empty. Round count 6 (02, par. 4)
    is (alt Lake G 10) (words (1 ∷ 12 ∷ [])) ∷
    is (alt Lake G 3) (words (0 ∷ 0 ∷ [])) ∷
    is (alt Lake G 5) (words (0 ∷ 0 ∷ [])) ∷
    is (rounds Lake G) (says (value 6)) ∷
    -- the last plain rule
    is (plain Lake G)
    (written (bytes "block <- '{' stmt* '}'\nstmt <- expr_stmt / block\nexpr_stmt <- lake__elake* ';'\nlake__elake <- !(block / '}' / ';') .\n")) ∷
    -- the nodes of `{a;}`
    is (matches Lake G "{a;}" 20 16) (listed (value 4) 4 (0 ∷ 0 ∷ 4 ∷ 0 ∷ 1 ∷ 1 ∷ 3 ∷ 1 ∷ 2 ∷ 1 ∷ 3 ∷ 2 ∷ 3 ∷ 1 ∷ 2 ∷ 3 ∷ [])) ∷
    -- `a <- 'x' <y>` on `x`, where there is nothing to skip (02, par. 4), and on `xz`
    is (matches Lake "a <- 'x' <y>" "x" 4 8) (listed nomatch 0 []) ∷
    is (lakes Lake "a <- 'x' <y>" "x" 1 1) (says (value 0)) ∷
    is (matches Lake "a <- 'x' <y>" "xz" 6 8) (listed (value 2) 2 (0 ∷ 0 ∷ 2 ∷ 0 ∷ 1 ∷ 1 ∷ 2 ∷ 1 ∷ [])) ∷
    -- guards add first calls
    is (reads Lake "A <- <x>* 'y' / B\nB <- <x>* 'z'") (says (refused 8 1)) ∷
    -- the lake that cannot skip, symbol 3
    is (skips Lake "s <- e ';'\ne <- <t>* o\no <- '+'?") (says (value 8)) ∷
    -- written unchanged, and without both pairs
    kept "a <- 'b' / ('c' / 'd')\n" ∷
    kept "a <- ('b'*)*\n" ∷
    kept "a <- !(!'b')\n" ∷
    is (own Lake "a <- (('b')) 'c'") (written (bytes "a <- 'b' 'c'\n")) ∷
    is (reads Lake "") (says (refused 2 0)) ∷
    -- room for one node too few, one cell too few, no match
    is (matches Lake G "{a;}" 20 15) (listed (refused 12 3) 0 []) ∷
    is (matches Lake G "{a;}" 19 16) (listed (refused 10 20) 0 []) ∷
    is (matches Lake G "a" 8 16) (listed nomatch 0 []) ∷
    -- table 1 of source document 000: symbols block, stmt, expr_stmt, <elake> are bits 0 to 3 of the first word, terminals `.`, `{`, `}`, `;` of the second
    is (sets Lake G 1) (three (0 ∷ 2 ∷ []) (2 ∷ 4 ∷ []) (0 ∷ 4 ∷ []) false) ∷
    is (sets Lake G 2) (three (2 ∷ 0 ∷ []) (2 ∷ 4 ∷ []) (0 ∷ 4 ∷ []) false) ∷
    is (sets Lake G 3) (three (2 ∷ 0 ∷ []) (0 ∷ 4 ∷ []) (0 ∷ 0 ∷ []) true) ∷
    is (sets Lake G 4) (three (0 ∷ 2 ∷ []) (0 ∷ 4 ∷ []) (0 ∷ 4 ∷ []) false) ∷
    is (sets Lake G 5) (three (0 ∷ 4 ∷ []) (2 ∷ 4 ∷ []) (0 ∷ 0 ∷ []) false) ∷
    is (sets Lake G 6) (three (0 ∷ 2 ∷ []) (2 ∷ 4 ∷ []) (0 ∷ 4 ∷ []) false) ∷
    is (sets Lake G 7) (three (4 ∷ 0 ∷ []) (2 ∷ 4 ∷ []) (1 ∷ 4 ∷ []) false) ∷
    is (sets Lake G 8) (three (1 ∷ 0 ∷ []) (2 ∷ 4 ∷ []) (0 ∷ 4 ∷ []) false) ∷
    is (sets Lake G 9) (three (5 ∷ 0 ∷ []) (2 ∷ 4 ∷ []) (0 ∷ 4 ∷ []) false) ∷
    is (sets Lake G 10) (three (8 ∷ 0 ∷ []) (8 ∷ 8 ∷ []) (1 ∷ 12 ∷ []) false) ∷
    is (sets Lake G 11) (three (8 ∷ 0 ∷ []) (0 ∷ 8 ∷ []) (1 ∷ 4 ∷ []) true) ∷
    is (sets Lake G 12) (three (0 ∷ 8 ∷ []) (2 ∷ 4 ∷ []) (1 ∷ 4 ∷ []) false) ∷
    is (sets Lake G 13) (three (8 ∷ 8 ∷ []) (2 ∷ 4 ∷ []) (1 ∷ 4 ∷ []) false) ∷
    -- rows 14 and 15 are gone: `<elake>` has no body (02, par. 4)
    is (sets Lake G 14) (bad 14 0) ∷
    -- its alternatives are those of all its uses
    is (plain Lake "a <- <x>* 'y' / 'w' <x>* 'z'") (as_text "a <- lake__x* 'y' / 'w' lake__x* 'z'\nlake__x <- !('y' / 'w' / 'z') .\n") ∷
    -- at the text's end a lake succeeds by its own rule; what is not empty there is no loop
    is (matches Lake "a <- <x>+ !. <x> <- 'q'?" "" 2 8) (listed (value 0) 2 (0 ∷ 0 ∷ 0 ∷ 0 ∷ 1 ∷ 0 ∷ 0 ∷ 1 ∷ [])) ∷
    is (own Lake "a <- <x> a / 'q'") (as_text "a <- <x> a / 'q'\n") ∷
    -- traps: with `.` in water the lake swallows every byte; `<term>` of 3.4, without a star, has an empty ALT
    is (matches Lake "a <- <x>* 'y' water <- ." "qy" 9 16) (listed nomatch 0 []) ∷
    is (plain Lake "stmt <- expr ';' expr <- <term> opt opt <- '++'?")
    (written (bytes "stmt <- expr ';'\nexpr <- lake__term opt\nopt <- '++'?\nlake__term <- .\n")) ∷
    -- the readings' examples
    is (reads Lake "a") (says (refused 2 1)) ∷
    is (reads Lake "a <-  # end") (says (refused 2 11)) ∷
    is (reads Lake "a b <- 'x'") (says (refused 2 2)) ∷
    is (reads Lake "a <- b <- 'c'") (says (refused 2 7)) ∷
    is (reads Lake "a <- ('x' b <- 'c')") (says (refused 2 12)) ∷
    is (reads Lake "a <- 'x' b* <- 'c'") (says (refused 2 12)) ∷
    is (reads Lake "a <- 'x' / b <- 'c'") (says (refused 2 13)) ∷
    is (reads Lake "a <- 'x' b <-") (says (refused 2 13)) ∷
    is (reads Lake "a <- 'x' < b>") (says (refused 2 9)) ∷
    is (reads Lake "a <- ()") (says (refused 2 6)) ∷
    is (reads Lake "a <- !!'x'") (says (refused 2 6)) ∷
    is (reads Lake "a <- '\\8'") (says (refused 2 5)) ∷
    is (reads Lake "a <- [^]") (says (refused 2 5)) ∷
    is (own Plain "a <- [^]") (written (bytes "a <- [\\136]\n")) ∷
    is (own Lake "a <- [+-]]") (written (bytes "a <- [+-\\]]\n")) ∷
    is (own Lake "a <- '\\377'") (written (bytes "a <- '\\0377'\n")) ∷
    is (reads Lake "a <- <lake__x> a <- 'y'") (says (refused 4 5)) ∷
    is (reads Lake "a <- 'x' water") (says (refused 5 9)) ∷
    is (reads Lake "a <- ('x'?)+ a") (says (refused 8 0)) ∷
    is (reads Lake "a <- 'x' water <- <y>") (says (refused 8 2)) ∷
    is (matches Lake "a <- <x>* 'y' water <- w w <- '#' ." "q#yy" 20 16)
    (listed (value 4) 4 (0 ∷ 0 ∷ 4 ∷ 0 ∷ 3 ∷ 0 ∷ 1 ∷ 1 ∷ 3 ∷ 1 ∷ 3 ∷ 1 ∷ 2 ∷ 1 ∷ 3 ∷ 2 ∷ [])) ∷
    is (lakes Lake "a <- <x>* 'y' water <- w w <- '#' ." "q#yy" 3 0) (says (value 3)) ∷
    is (lakes Lake "a <- <x>* 'y' water <- w w <- '#' ." "q#yy" 3 1) (says (value 2)) ∷
    is (lakes Lake "a <- <x>* 'y' water <- w w <- '#' ." "q#yy" 3 2) (says (value 0)) ∷
    is (matches Lake "a <- (b 'y' / b)* b <- 'x'?" "yx" 6 12) (listed (value 2) 3 (0 ∷ 0 ∷ 2 ∷ 0 ∷ 1 ∷ 0 ∷ 0 ∷ 1 ∷ 1 ∷ 1 ∷ 2 ∷ 1 ∷ [])) ∷
    is (plain Lake "<l> <- '(' <l>* ')'") (written (bytes "lake__l <- '(' lake__l* ')' / !')' .\n")) ∷
    is (plain Lake "a <- (<x> / 'b'?) 'c'") (written (bytes "a <- (lake__x / 'b'?) 'c'\nlake__x <- !('b' / 'c') .\n")) ∷
    is (rounds Lake "a <- 'x' / 'y'") (says (value 1)) ∷
    is (rounds Lake "a <- <x>* 'y'") (says (value 1)) ∷
    -- accepted: symbols, terminals, expressions
    is (reads Lake G) (counted 4 4 13) ∷
    is (reads Lake "a <- 'x' / 'y'") (counted 1 3 3) ∷
    is (reads Plain "a <- 'x' [y] .") (counted 1 3 5) ∷
    -- two lakes without rules stand behind the left sides, by first use
    is (reads Lake loose) (counted 5 4 9) ∷
    is (own Lake loose) (as_text "a <- <b> <c> 'x' <b>\nc <- 'y'\n<d> <- 'z'\n") ∷
    is (plain Lake loose) (as_text "a <- lake__b lake__c 'x' lake__b\nc <- 'y'\nlake__d <- 'z' / .\nlake__b <- .\nlake__c <- .\n") ∷
    -- a lake by its rule, and no lake, no place, no expression
    is (lakes Lake "a <- <x>* 'y' <x> <- 'q'" "qy" 1 0) (says (value 1)) ∷
    is (lakes Lake "a <- <x>* 'y' <x> <- 'q'" "qy" 0 0) (bad 14 0) ∷
    is (lakes Lake "a <- <x>* 'y' <x> <- 'q'" "qy" 1 3) (bad 14 0) ∷
    -- the tree as JSON (02, par. 1): a match of G there and back
    is (texts Lake G "{a;}" blocks 246) (written blocks_text) ∷
    is (lists Lake G "{a;}" blocks_text 16) (words blocks) ∷
    -- two children; a byte too few; siblings that overlap; a part of a node; no words
    is (texts Lake pair "xx" (0 ∷ 0 ∷ 2 ∷ 0 ∷ 1 ∷ 0 ∷ 1 ∷ 1 ∷ 1 ∷ 1 ∷ 2 ∷ 1 ∷ []) 167) (written pair_text) ∷
    is (texts Lake pair "xx" (0 ∷ 0 ∷ 2 ∷ 0 ∷ 1 ∷ 0 ∷ 1 ∷ 1 ∷ 1 ∷ 1 ∷ 2 ∷ 1 ∷ []) 166) (bad 13 167) ∷
    is (texts Lake pair "xx" (0 ∷ 0 ∷ 2 ∷ 0 ∷ 1 ∷ 0 ∷ 2 ∷ 1 ∷ 1 ∷ 1 ∷ 2 ∷ 1 ∷ []) 166) (bad 15 2) ∷
    is (texts Lake pair "xx" (0 ∷ 0 ∷ 2 ∷ 0 ∷ 1 ∷ []) 167) (bad 15 1) ∷
    is (texts Lake pair "xx" [] 167) (bad 15 0) ∷
    -- escapes
    is (texts Lake "a <- .*" "\"\\\n /" (0 ∷ 0 ∷ 5 ∷ 0 ∷ []) 128)
    (written (bytes "{\"name\":\"a\",\"start\":0,\"end\":5,\"text\":\"\\\"\\\\\\u000A /\",\"children\":[]}")) ∷
    -- a root that no match makes; a leading zero; no room
    is (lists Lake pair "xx" (bytes "{\"name\":\"b\",\"start\":1,\"end\":1,\"text\":\"\",\"children\":[]}") 5) (words (1 ∷ 1 ∷ 1 ∷ 0 ∷ [])) ∷
    is (lists Lake pair "xx" (bytes "{\"name\":\"b\",\"start\":1,\"end\":01,\"text\":\"\",\"children\":[]}") 5) (bad 16 0) ∷
    is (lists Lake pair "xx" (bytes "{\"name\":\"b\",\"start\":1,\"end\":1,\"text\":\"\",\"children\":[]}") 3) (bad 12 0) ∷
    -- the records of the symbols (02, par. 2): blocks in a block; a list with one node; a record too few; no words
    is (sums Lake G "{a;{b;}}" nested 5) (summed 4 (sum 2 8 0 5 ∷ sum 3 6 1 6 ∷ sum 2 4 2 7 ∷ sum 2 2 3 8 ∷ lent ∷ [])) ∷
    is (sums Lake G "{a;{b;}}" (1 ∷ 3 ∷ 7 ∷ 0 ∷ []) 4) (summed 4 (absent ∷ sum 1 4 0 0 ∷ absent ∷ absent ∷ [])) ∷
    is (sums Lake G "{a;{b;}}" (1 ∷ 3 ∷ 7 ∷ 0 ∷ []) 3) (bad 17 4) ∷
    is (sums Lake G "{a;{b;}}" [] 3) (bad 15 0) ∷
    -- line and column (02, par. 2): behind the last byte of a line, on the next one, behind CR LF, and past the text
    is (spots "ab\n\nc" 2) (words (1 ∷ 3 ∷ [])) ∷
    is (spots "ab\n\nc" 3) (words (2 ∷ 1 ∷ [])) ∷
    is (spots "a\r\nb" 4) (words (2 ∷ 2 ∷ [])) ∷
    is (spots "ab\n\nc" 6) (bad 14 0) ∷
    lexical
