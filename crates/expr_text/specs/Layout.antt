-- How a tree is laid out: one space round operators and after commas, lines each on a line of its own.
use Rattle.std.specs.Prelude.{ℕ, ◌/◌, ◌%◌, pos, nat_lt, Bool, true, false, ◌&&◌, ◌||◌, not, ◌==◌, List, [], ◌∷◌, ◌++◌, Some, map, if◌then◌else◌}
use Rattle.std.specs.Char.{digit_char}
use Rattle.std.specs.Fmt.{decimal}
use Rattle.std.specs.List.{flat_map}
use Rattle.expr_error.specs.Quoted.{quoted_text}
use Rattle.expr_tokens.specs.Reading.{Piece, Blank, TokenPiece, pieces_text}
use Rattle.expr_tokens.specs.Spellings.{sign_text, reserved_text}
use Rattle.expr_tokens.specs.Tokens.{BytePart, Itself, Hex, byte_part}
use Rattle.expr_tokens.specs.declared.token.Token.{Token}
use Rattle.expr_tokens.specs.declared.token.Token.TheVariants as token
use Rattle.expr_tokens.specs.declared.sign.Sign.{Sign}
use Rattle.expr_tokens.specs.declared.sign.Sign.TheVariants as sign
use Rattle.expr_tokens.specs.declared.reserved.Reserved.{Reserved}
use Rattle.expr_tokens.specs.declared.reserved.Reserved.TheVariants as reserved
use Rattle.expr_tree.specs.Term.{Block}
use Rattle.expr_tokens.specs.declared.operator_sign.PrefixSign.{PrefixSign}
use Rattle.expr_tokens.specs.declared.operator_sign.PrefixSign.TheVariants as prefix
use Rattle.expr_tokens.specs.declared.operator_sign.InfixSign.{InfixSign}
use Rattle.expr_tokens.specs.declared.operator_sign.InfixSign.TheVariants as infixed
use Rattle.expr_tokens.specs.Grammar.{EntryRow, OneEntry, MoreEntries, Entries, NoEntries, SomeEntries, Tree, Literal, Name, HashName, Field, Paren, Array, Map, Call, If, Prefix, Infix, Member, Method, Index, Slice, Pipe, Ternary, Items, NoItems, SomeItems, Row, One, More, Arguments, NoArguments, SomeArguments, ArgumentRow, OneArgument, MoreArguments, Argument, Expression, Braces, Bound, LeftOut, At, ElsePart, Else, ElseIf, TreeProgram, Program, Lines, NoLines, MoreLines, word_token, constant_token, key_token, member_token, index_tokens, infix_tokens}
use Rattle.expr_text.specs.Trees.{printed_tree}

-- a byte of a bytes literal: itself where it is printed in ASCII and has no meaning there
abbrev pub is_plain : ℕ → Bool
is_plain b = nat_lt 31 b && (nat_lt b 127 && (not (b == 34) && not (b == 92)))

abbrev pub byte_part_of : ℕ → BytePart
byte_part_of b = if is_plain b then Itself b else Hex (digit_char (b / 16)) (digit_char (b % 16))

abbrev pub bytes_text : List ℕ → List ℕ
bytes_text bs = 98 ∷ 34 ∷ (flat_map byte_part (map byte_part_of bs) ++ 34 ∷ [])

abbrev pub spelling : Token → List ℕ
spelling (token.Integer (Some (pos n))) = decimal n
spelling (token.Integer i) = []
spelling (token.Word w) = w
spelling (token.Reserved r) = reserved_text r
spelling (token.Hash h) = h
spelling (token.Quoted s) = quoted_text s
spelling (token.Raw s) = 96 ∷ (s ++ 96 ∷ [])
spelling (token.Bytes bs) = bytes_text bs
spelling (token.Sign x) = sign_text x

abbrev pub written : Token → Piece
written t = TokenPiece t (spelling t)

abbrev pub signed : Sign → Piece
signed x = TokenPiece (token.Sign x) (sign_text x)

abbrev pub worded : Reserved → Piece
worded r = TokenPiece (token.Reserved r) (reserved_text r)

abbrev pub space : Piece
space = Blank 32

abbrev pub new_line : Piece
new_line = Blank 10

abbrev pub prefix_pieces : PrefixSign → List Piece
prefix_pieces prefix.Not = worded reserved.Not ∷ space ∷ []
prefix_pieces prefix.Bang = signed sign.Bang ∷ space ∷ []
prefix_pieces prefix.Positive = signed sign.Plus ∷ []
prefix_pieces prefix.Negative = signed sign.Minus ∷ []

abbrev pub infix_pieces : InfixSign → List Piece
infix_pieces infixed.NotIn = worded reserved.Not ∷ space ∷ worded reserved.In ∷ []
infix_pieces o = map written (infix_tokens o)

abbrev pub comma_pieces : Bool → List Piece
comma_pieces true = signed sign.Comma ∷ []
comma_pieces false = []

-- whether an operator stands between operands
abbrev pub joins_operands : Tree → Bool
joins_operands (Infix o l r) = true
joins_operands (Pipe l w xs) = true
joins_operands (Ternary c a b) = true
joins_operands t = false

abbrev pub has_operator : Bound → Bool
has_operator LeftOut = false
has_operator (At t) = joins_operands t

-- the blank between a bound and the colon
abbrev pub beside_bound : (wide : Bool) → Bound → List Piece
beside_bound wide LeftOut = []
beside_bound true (At t) = space ∷ []
beside_bound false (At t) = []

-- A colon of a slice has blanks beside it if an operator stands in one of the bounds.
abbrev pub colon_pieces : Bound → Bound → List Piece
colon_pieces a b =
    let wide = has_operator a || has_operator b in
    beside_bound wide a ++ signed sign.Colon ∷ beside_bound wide b

abbrev pub colon_text : Bound → Bound → List ℕ
colon_text a b = pieces_text (colon_pieces a b)

abbrev mutual
  pub pieces_of : Tree → List Piece
  pieces_of (Literal c) = written (constant_token c) ∷ []
  pieces_of (Name w) = written (token.Word w) ∷ []
  pieces_of (HashName w) = written (token.Hash w) ∷ []
  pieces_of (Field w) = signed sign.Dot ∷ written (word_token w) ∷ []
  pieces_of (Paren t) = signed sign.ParenOpen ∷ (pieces_of t ++ signed sign.ParenClose ∷ [])
  pieces_of (Array xs) = signed sign.SquareOpen ∷ (items_pieces xs ++ signed sign.SquareClose ∷ [])
  pieces_of (Map es) = signed sign.BraceOpen ∷ (entries_pieces es ++ signed sign.BraceClose ∷ [])
  pieces_of (Call w xs) = written (token.Word w) ∷ signed sign.ParenOpen ∷ (arguments_pieces xs ++ signed sign.ParenClose ∷ [])
  pieces_of (If c a e) = worded reserved.If ∷ space ∷ (pieces_of c ++ space ∷ signed sign.BraceOpen ∷ space ∷ (program_pieces a ++ space ∷ signed sign.BraceClose ∷ space ∷ worded reserved.Else ∷ space ∷ else_pieces e))
  pieces_of (Prefix o t) = prefix_pieces o ++ pieces_of t
  pieces_of (Infix o l r) = pieces_of l ++ space ∷ (infix_pieces o ++ space ∷ pieces_of r)
  pieces_of (Member l optional w) = pieces_of l ++ written (member_token optional) ∷ written (word_token w) ∷ []
  pieces_of (Method l w xs) = pieces_of l ++ signed sign.Dot ∷ written (word_token w) ∷ signed sign.ParenOpen ∷ (items_pieces xs ++ signed sign.ParenClose ∷ [])
  pieces_of (Index l optional i) = pieces_of l ++ (map written (index_tokens optional) ++ (pieces_of i ++ signed sign.SquareClose ∷ []))
  pieces_of (Slice l a b) = pieces_of l ++ signed sign.SquareOpen ∷ (bound_pieces a ++ (colon_pieces a b ++ (bound_pieces b ++ signed sign.SquareClose ∷ [])))
  pieces_of (Pipe l w xs) = pieces_of l ++ space ∷ signed sign.Bar ∷ space ∷ written (token.Word w) ∷ signed sign.ParenOpen ∷ (arguments_pieces xs ++ signed sign.ParenClose ∷ [])
  pieces_of (Ternary c a b) = pieces_of c ++ space ∷ signed sign.Question ∷ space ∷ (pieces_of a ++ space ∷ signed sign.Colon ∷ space ∷ pieces_of b)

  pub items_pieces : Items → List Piece
  items_pieces NoItems = []
  items_pieces (SomeItems r comma) = row_pieces r ++ comma_pieces comma

  pub row_pieces : Row → List Piece
  row_pieces (One t) = pieces_of t
  row_pieces (More r t) = row_pieces r ++ signed sign.Comma ∷ space ∷ pieces_of t

  pub entries_pieces : Entries → List Piece
  entries_pieces NoEntries = []
  entries_pieces (SomeEntries r comma) = entry_row_pieces r ++ comma_pieces comma

  pub entry_row_pieces : EntryRow → List Piece
  entry_row_pieces (OneEntry key t) = written (key_token key) ∷ signed sign.Colon ∷ space ∷ pieces_of t
  entry_row_pieces (MoreEntries r key t) = entry_row_pieces r ++ signed sign.Comma ∷ space ∷ written (key_token key) ∷ signed sign.Colon ∷ space ∷ pieces_of t

  pub arguments_pieces : Arguments → List Piece
  arguments_pieces NoArguments = []
  arguments_pieces (SomeArguments r comma) = argument_row_pieces r ++ comma_pieces comma

  pub argument_row_pieces : ArgumentRow → List Piece
  argument_row_pieces (OneArgument a) = argument_pieces a
  argument_row_pieces (MoreArguments r a) = argument_row_pieces r ++ signed sign.Comma ∷ space ∷ argument_pieces a

  pub argument_pieces : Argument → List Piece
  argument_pieces (Expression t) = pieces_of t
  argument_pieces (Braces p) = signed sign.BraceOpen ∷ (program_pieces p ++ signed sign.BraceClose ∷ [])

  pub bound_pieces : Bound → List Piece
  bound_pieces LeftOut = []
  bound_pieces (At t) = pieces_of t

  pub else_pieces : ElsePart → List Piece
  else_pieces (Else b) = signed sign.BraceOpen ∷ space ∷ (program_pieces b ++ space ∷ signed sign.BraceClose ∷ [])
  else_pieces (ElseIf c a e) = worded reserved.If ∷ space ∷ (pieces_of c ++ space ∷ signed sign.BraceOpen ∷ space ∷ (program_pieces a ++ space ∷ signed sign.BraceClose ∷ space ∷ worded reserved.Else ∷ space ∷ else_pieces e))

  pub program_pieces : TreeProgram → List Piece
  program_pieces (Program ls t) = lines_pieces ls ++ pieces_of t

  pub lines_pieces : Lines → List Piece
  lines_pieces NoLines = []
  lines_pieces (MoreLines ls w t) = lines_pieces ls ++ worded reserved.Let ∷ space ∷ written (token.Word w) ∷ space ∷ signed sign.Equal ∷ space ∷ (pieces_of t ++ signed sign.Semicolon ∷ new_line ∷ [])

-- the text of a program
abbrev pub program_text : Block → List ℕ
program_text b = pieces_text (program_pieces (printed_tree b))
