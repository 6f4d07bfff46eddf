-- The grammar of a saved list of rows in RON.
use Rattle.std.specs.Prelude.{ℕ, List, [], ◌∷◌, codes}
use Rattle.saved_text.specs.Letters.{is_plain, is_letter, named}
use Rattle.saved_text.specs.Grammar.{Grammar}
use Rattle.saved_text.specs.Grammar.Word.{the_name, the_end}
use Rattle.saved_text.specs.Grammar.Grammar.{nothing, say, space, sign, one, number, seq, either, many}

infixr 30 ◌·◌
abbrev pub ◌·◌ : Grammar → Grammar → Grammar
g · h = seq g h

-- with white space between
infixr 30 ◌▹◌
abbrev pub ◌▹◌ : Grammar → Grammar → Grammar
g ▹ h = seq g (seq space h)

infixr 20 ◌or◌
abbrev pub ◌or◌ : Grammar → Grammar → Grammar
g or h = either g h

abbrev pub optional : Grammar → Grammar
optional g = g or nothing

abbrev pub name : List ℕ → Grammar
name n = sign n · say (the_name n)

-- ---- strings

-- behind a `\`
abbrev pub escape : Grammar
escape = one is_letter (λ b. named b ∷ []) or sign (codes "x") · number 2 2 0 or sign (codes "u{") · number 1 6 0 ·
    sign (codes "}")

abbrev pub character : Grammar
character = one is_plain (λ b. b ∷ []) or sign (codes "\\") · escape

abbrev pub string : Grammar
string = sign (codes "\"") · many character · sign (codes "\"") · say the_end

-- ---- rows

abbrev pub comma : Grammar
comma = sign (codes ",")

-- the grammar in round brackets, with an optional last comma
abbrev pub bracketed : Grammar → Grammar
bracketed g = sign (codes "(") ▹ g ▹ optional (comma · space) · sign (codes ")")

abbrev pub field : List ℕ → Grammar → Grammar
field n g = name n ▹ sign (codes ":") ▹ g

abbrev pub bool : Grammar
bool = name (codes "true") or name (codes "false")

abbrev pub domain : Grammar
domain = (name (codes "HostOnly") ▹ bracketed string) or (name (codes "Suffix") ▹ bracketed string) or name
    (codes "NotPresent") or name (codes "Empty")

abbrev pub expires : Grammar
expires = (name (codes "AtUtc") ▹ bracketed string) or name (codes "SessionEnd")

-- each once, in any order, parted by commas
abbrev pub two : Grammar → Grammar → Grammar
two a b = (a ▹ comma ▹ b) or (b ▹ comma ▹ a)

abbrev pub three : Grammar → Grammar → Grammar → Grammar
three a b c = (a ▹ comma ▹ two b c) or (b ▹ comma ▹ two a c) or (c ▹ comma ▹ two a b)

abbrev pub four : Grammar → Grammar → Grammar → Grammar → Grammar
four a b c d = (a ▹ comma ▹ three b c d) or (b ▹ comma ▹ three a c d) or (c ▹ comma ▹ three a b d) or
    (d ▹ comma ▹ three a b c)

abbrev pub raw_field : Grammar
raw_field = field (codes "raw_cookie") string

abbrev pub path : Grammar
path = bracketed (string ▹ comma ▹ bool)

abbrev pub path_field : Grammar
path_field = field (codes "path") path

abbrev pub domain_field : Grammar
domain_field = field (codes "domain") domain

abbrev pub expires_field : Grammar
expires_field = field (codes "expires") expires

abbrev pub fields : Grammar
fields = four raw_field path_field domain_field expires_field

abbrev pub row : Grammar
row = bracketed fields

abbrev pub list : Grammar
list = sign (codes "[") ▹ optional (row ▹ many (comma ▹ row · space) · optional (comma · space)) · sign (codes "]")

abbrev pub ron : Grammar
ron = space · list · space
