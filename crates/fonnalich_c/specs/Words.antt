-- What a refusal's number is told as in words (own: docs/DEFINITIONS.md).
use Rattle.std.specs.Prelude.{ℕ, ℤ, pos, ◌==◌, if◌then◌else◌, nat_le, int_lt, unsigned_abs, List, [], codes}

-- of the number below 0 that has this size
abbrev pub words_of : ℕ → List ℕ
words_of size =
    if size == 1 then codes "memory was refused"
    else if size == 2 then codes "the word is none of the header file"
    else if size == 3 then codes "there is no client yet"
    else if size == 4 then codes "the text is no public suffix list"
    else if size == 5 then codes "the second is outside the years -9999 to 9999"
    else if size == 6 then codes "the text is no URL"
    else if size == 7 then codes "the text is no saved client"
    else if size == 8 then codes "a cookie that is to be saved ends in a year below 0"
    else if size == 9 then codes "the saved text wasn't read to its end"
    else if size == 10 then codes "the key has under 64 bytes"
    else if size == 11 then codes "a line is no command, or sets a cookie with a Domain or a Path of its own"
    else if size == 12 then codes "the name is empty"
    else if size == 13 then codes "the expiry is of a year below 100"
    else if size == 14 then codes "the cookie is too long to be sealed"
    else if size == 15 then codes "there are too few nonces"
    else if size == 16 then codes "the host has no byte or an empty label, or the URL has none"
    else if size == 17 then codes "a text isn't UTF-8"
    else if size == 18 then codes "the text has no = before its first semicolon"
    else if size == 19 then codes "the number is none of SameSite"
    else if size == 20 then codes "the number is none of rules"
    else if size == 21 then codes "the header has a control character"
    else if size == 22 then codes "this processor lacks SSE 4.2"
    else if size == 23 then codes "the library's handle is larger than the header file's"
    else if size == 24 then codes "the suffix list has no rule"
    else if size == 25 then codes "the handle keeps no list"
    else if size == 26 then codes "there are over 16 earlier keys"
    else if size == 27 then codes "the keys haven't 64 bytes each, or aren't one more than the ends"
    else if size == 28 then codes "the end of a key is outside the years -9999 to 9999"
    else if size == 40 then codes "the line isn't UTF-8"
    else if size == 41 then codes "the line has neither six nor seven fields"
    else if size == 42 then codes "the line has no domain"
    else if size == 43 then codes "a flag of the line is neither TRUE nor FALSE"
    else if size == 44 then codes "the path has no / in front"
    else if size == 45 then codes "the expiry is no number"
    else if size == 46 then codes "the line's name is empty"
    else if size == 47 then codes "the domain has no IDNA form"
    else if size == 48 then codes "a control character stands in the cookie"
    else if size == 49 then codes "no Set-Cookie line gives such a name or value"
    else if size == 50 then codes "the cookie is against the prefix __Host-"
    else if nat_le 100 size then codes "memory was refused at a line"
    else []

-- nothing where the number is of no refusal
abbrev pub text_of : ℤ → List ℕ
text_of number = if int_lt number (pos 0) then words_of (unsigned_abs number) else []
