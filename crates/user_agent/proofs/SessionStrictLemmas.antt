-- The lines of a session whose cookie of a name is Strict set it strictly.
use Rattle.std.proofs.Common.{◌≡◌, ◌∙◌, ◌≤ℤ◌, ◌++◌, ℕ, ℤ, pos, List, [], ◌∷◌, true, false, Some, Ok, ap, arith}
use Rattle.std.proofs.Common.{inl, inr, subst, sym}
use Rattle.std.specs.List.{AllByRecursion}
use Rattle.std.proofs.lemmas.Bool.{both_ways}
use Rattle.std.proofs.lemmas.Int.{ints}
use Rattle.percent_encoding.specs.Percent.{percent_decode}
use Rattle.url.specs.Parts.{Parts}
use Rattle.cookie_text.specs.Normal.{normal}
use Rattle.cookie_text.specs.Pieces.{name_of}
use Rattle.cookie_text.specs.Printing.{attributes_of, encoded, encoded_pair, escaped, stripped}
use Rattle.cookie_text.specs.Reading.{ReadsPlain, first_piece}
use Rattle.cookie_text.specs.Record.{Record, Seen}
use Rattle.cookie_text.specs.declared.draft.SameSite.TheVariants.{Strict}
use Rattle.cookie_text.proofs.NormalLemmas.{pieces_of, printed_pieces}
use Rattle.cookie_text.proofs.PrintedCookies.{IsClean-pair, IsClean-plain, name_of-pair}
use Rattle.cookie_text.proofs.PrintedPieces.{All-IsPlain-escaped}
use Rattle.cookie_text.proofs.ReadsBack.{first_joined}
use Rattle.store_parts.specs.Expiry.{death, is_dead}
use Rattle.cookie_client.specs.Jar.{IsSent, lines_of}
use Rattle.cookie_client.proofs.Escaped.{decoded_escaped}
use Rattle.cookie_client.proofs.SessionTexts.{utf8_bytes}
use Rattle.user_agent.specs.Agent.{IsHandedOn}
use Rattle.user_agent.specs.Refusals.{CameByHttps}
use Rattle.user_agent.specs.SessionLines.{IsWithin}
use Rattle.user_agent.specs.StrictRuns.{IsStrictOrRemoves, SessionsSetStrictly, SetsStrictly}
use Rattle.user_agent.specs.declared.rules.Rules.{Rules}
use Rattle.user_agent.proofs.PairLemmas.{pairs_stay}
use Rattle.user_agent.proofs.SessionLemmas.{handed_same, of_each, read_is}

-- the name in the first piece of a session's line
first_name : (c : Record) → name_of (first_piece (encoded c)) ≡ escaped c.name
first_name c =
    let name = All-IsPlain-escaped c.name in
    let value = All-IsPlain-escaped c.value in
    let first : first_piece (encoded c) ≡ stripped (encoded_pair c) =
    ap (λ t. first_piece (stripped (encoded_pair c) ++ t)) (printed_pieces (attributes_of c))
    ∙ first_joined (stripped (encoded_pair c)) (pieces_of (attributes_of c))
    (IsClean-pair (escaped c.name) (escaped c.value) (IsClean-plain _ name) (IsClean-plain _ value)) in
    ap name_of first ∙ name_of-pair (escaped c.name) (escaped c.value) name

-- whatever rules are on, the line is read with that name
same_name : (rules : Rules) (now : ℤ) (c : Record) (handed : List ℕ) (seen : Seen)
    → IsHandedOn rules now (encoded c) handed → ReadsPlain handed (Ok seen) → seen.cookie.name ≡ escaped c.name
same_name rules now c handed seen is_handed reads =
    reads.name.1 ∙ (ap name_of (pairs_stay rules now (encoded c) handed is_handed) ∙ first_name c)

module _ (rules : Rules) (url : Parts) (now : ℤ) (https : CameByHttps url) (name : List ℕ) where
  -- where it has the name, the cookie is within the bounds, and is Strict or removes
  abbrev IsFit : Record → Type 0
  IsFit c = c.name ≡ name → IsWithin rules now c × IsStrictOrRemoves now c

  module _ (c : Record) (sent : IsSent c) (fit : IsFit c) (handed : List ℕ) (seen : Seen)
      (is_handed : IsHandedOn rules now (encoded c) handed) (reads : ReadsPlain handed (Ok seen)) where
    named : percent_decode seen.cookie.name ≡ name → c.name ≡ name
    named e =
        sym (decoded_escaped c.name (utf8_bytes c.name sent.name))
        ∙ (sym (ap percent_decode (same_name rules now c handed seen is_handed reads)) ∙ e)

    is : IsWithin rules now c → seen.cookie ≡ normal (encoded_pair c)
    is within =
        read_is rules [] url now c sent https within seen
        (subst (λ l. ReadsPlain l (Ok seen)) (handed_same rules [] url now c sent https within handed is_handed) reads)

    removed : IsWithin rules now c → c.max_age ≡ Some (pos 0) → pos 0 ≤ℤ now
        → is_dead now (death seen.cookie now) ≡ true
    removed within zero late =
        let age : seen.cookie.max_age ≡ Some (pos 0) =
        ap (λ (r : Record). r.max_age) (is within)
        ∙ ap (λ o. (normal (record (encoded_pair c) { max_age = o })).max_age) zero in
        let ends : death seen.cookie now ≡ Some (pos 0) =
        ap (λ o. death (record seen.cookie { max_age = o }) now) age in
        let dead : is_dead now (Some (pos 0)) ≡ true = grind (arith, ints, late) in
        ap (is_dead now) ends ∙ dead

    strict : percent_decode seen.cookie.name ≡ name → is_dead now (death seen.cookie now) ≡ false
        → seen.cookie.same_site ≡ Some Strict
    strict e lives = by (fit (named e))
      where
        by : IsWithin rules now c × IsStrictOrRemoves now c → seen.cookie.same_site ≡ Some Strict
        by (within, inl is_strict) = ap (λ (r : Record). r.same_site) (is within) ∙ is_strict
        by (within, inr (zero, late)) = absurd (both_ways _ lives (removed within zero late))

  all_strict : (cookies : List Seen) → AllByRecursion (λ s. IsSent s.cookie) cookies
      → AllByRecursion (λ s. IsFit s.cookie) cookies
      → AllByRecursion (SetsStrictly rules now name) (lines_of cookies)
  all_strict [] sent fit = tt
  all_strict (s ∷ cookies) sent fit = (
    (λ handed seen is_handed utf8 reads e lives. strict s.cookie sent.0 fit.0 handed seen is_handed reads e lives),
    all_strict cookies sent.1 fit.1,
  )

pub sessions_set_strictly : SessionsSetStrictly
sessions_set_strictly rules url now jar lines name closed https fit =
    let each = of_each (λ s. IsFit rules url now https name s.cookie) closed.cookies closed.lists.apart
    (λ stored s e. fit stored s (sym (closed.lists.each stored) ∙ e)) in
    subst (AllByRecursion (SetsStrictly rules now name)) (sym closed.printed)
    (all_strict rules url now https name closed.cookies closed.are_sent each)
