-- Lists of cookies, each name once.
use Rattle.std.proofs.Common.{◌≡◌, ℕ, List, All, sym, ap, ◌∙◌, ⊎_elim, Option, None}
use Rattle.std.specs.Prelude.{map}
use Rattle.std.specs.Str.{bytes_eq}
use Rattle.std.proofs.lemmas.Bool.{cases_Bool}
use Rattle.percent_encoding.specs.Percent.{percent_decode}
use Rattle.percent_encoding.proofs.PercentLemmas.{IsByte}
use Rattle.cookie_text.specs.Printing.{escaped}
use Rattle.cookie_text.specs.Record.{Record}
use Rattle.cookie.specs.ByName.{HaveOwnNames as EntriesApart, value_in as entry_in}
use Rattle.cookie_client.proofs.Texts.{same_text, text_is, other_text, texts_differ}
use Rattle.cookie_client.proofs.Escaped.{decoded_escaped}

abbrev pub by_name : List Record → List (List ℕ × Record)
by_name cs = map (λ c. (c.name, c)) cs

-- the first cookie of a name
abbrev pub found_in : List Record → List ℕ → Option Record
found_in cs name = entry_in (by_name cs) name

abbrev pub lacks : List Record → List ℕ → Type 0
lacks cs name = found_in cs name ≡ None

-- no two cookies of one name
abbrev pub AreApart : List Record → Type 0
AreApart cs = EntriesApart (by_name cs)

pub same_escaped : (x y : List ℕ) → All IsByte x → All IsByte y
    → bytes_eq (escaped x) (escaped y) ≡ bytes_eq x y
same_escaped x y hx hy =
    ⊎_elim
    (λ e. e ∙ sym (text_is x y (sym (decoded_escaped x hx) ∙ (ap percent_decode (same_text _ _ e)
    ∙ decoded_escaped y hy))))
    (λ e. e ∙ sym (other_text x y (λ same. texts_differ _ _ e (ap (escaped) same))))
    (cases_Bool (bytes_eq (escaped x) (escaped y)))
