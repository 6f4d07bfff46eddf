-- A row whose decoded name begins with `__Host-` came by a line that conforms, or was loaded so, and stays so.
use Rattle.std.proofs.Common.{◌≡◌, ℕ, ℤ, false, List, [], ◌∷◌, sym, refl, ap, ◌∙◌, subst, inl, inr, Option, Some, None}
use Rattle.std.proofs.Common.{Ok, Err, ◌==◌, codes, take}
use Rattle.std.specs.Prelude.{option_map, option_and_then, unwrap_or, IsSomeAnd, Result, IfOk, IfErr}
use Rattle.std.specs.List.{AllByRecursion}
use Rattle.std.specs.Str.{bytes_eq, IsUtf8, trim_start, trim_end, chars}
use lib.Utf8.{encode}
use Rattle.std.proofs.lemmas.List.Elements.{All-nil, All-cons}
use Rattle.cookie.specs.Prefix.{IsHost, host_text}
use Rattle.cookie_text.specs.Again.{BoundReadAgain, PairsReadAgain}
use Rattle.cookie_text.specs.Normal.{IsPiece}
use Rattle.cookie_text.specs.Pieces.{semicolon}
use Rattle.cookie_text.specs.Reading.{ReadsPlain}
use Rattle.cookie_text.specs.ReadingBack.{Pairwise}
use Rattle.cookie_text.specs.Record.{Seen, unsliced}
use Rattle.publicsuffix.specs.Rules.{Rule}
use Rattle.store_parts.specs.DomainMatch.{Domain, host_only}
use Rattle.store_parts.specs.DomainText.{attribute_domain}
use Rattle.store_parts.specs.PathMatch.{default_path_at, read_path}
use Rattle.store_parts.specs.Schemes.{host_of}
use Rattle.url.specs.Parts.{Parts}
use Rattle.cookie_store.specs.Given.{ArePicked}
use Rattle.cookie_store.specs.Insertion.{alone}
use Rattle.cookie_store.specs.Making.{IsDomainFor, IsMade}
use Rattle.cookie_store.specs.Placing.{is_saved, saved}
use Rattle.cookie_store.specs.Rows.{Row, domain_text, expired, is_live}
use Rattle.cookie_store.specs.SavedRows.{IsReread}
use Rattle.cookie_client.specs.Accept.{AcceptsAll, IsStopped}
use Rattle.cookie_client.specs.HostPrefix.{BeginsHost, IsAgainstHost, IsHeldRightly, AreHeldRightly}
use Rattle.cookie_client.specs.HostRows.{AnswersHoldRightly, RestartsHoldRightly, SavedRowsHoldRightly}
use Rattle.cookie_client.specs.KeepingLaws.{SavedRowsAreKept}
use Rattle.cookie_client.specs.Keeping.{Keeps, HasReadPair, HaveReadPairs}
use Rattle.cookie_client.specs.declared.outcome.LineEnd.{LineEnd}
use Rattle.cookie_client.proofs.ComingBack.{filter_all, lines_from}
use Rattle.cookie_client.proofs.LetIn.{free_conforms}
use Rattle.cookie_client.proofs.Lines.{some_domain}
use Rattle.cookie_client.proofs.Texts.{some_is_not_none}
use Rattle.cookie_client.proofs.CountedRows.{Counts}

-- ---- its row

some_host : (o : Option (List ℕ)) (d : Domain) → option_map host_only o ≡ Some d
    → (host : List ℕ) × (d ≡ host_only host)
some_host None d e = absurd (some_is_not_none d (sym e))
some_host (Some g) d e = (g, sym (some_domain (host_only g) d e))

pub made_held : (line : List ℕ) (s : Seen) (url : Parts) (now : ℤ) (made : Row) → ¬ (IsAgainstHost url line)
    → IsUtf8 line → ReadsPlain line (Ok s) → IsMade (unsliced s.cookie) url now made → IsHeldRightly made
made_held line s url now made free utf8 reads is = λ begins.
    let h =
    (free_conforms url line s free utf8 reads (subst (λ (x : Seen). BeginsHost x.cookie.name) is.raw begins)).0 in
    record {
      domain = some_host (host_of url) made.domain
          (subst (λ o. IsSomeAnd (attribute_domain o) (λ asked. IsDomainFor asked url made.domain)) h.domain is.domain);
      path = is.path ∙ ap (λ o. unwrap_or (option_and_then read_path o) (default_path_at url)) h.path;
      conforms = subst IsHost (sym is.raw)
          (record { secure = h.secure; path = h.path; domain = h.domain });
    }

pub expired_held : (r : Row) → IsHeldRightly r → IsHeldRightly (expired r)
expired_held r h = λ begins.
    let is = h begins in record { domain = is.domain; path = is.path; conforms = is.conforms }

pub alone_held : (r : Row) → IsHeldRightly r → IsHeldRightly (alone r)
alone_held r h = λ begins.
    let is = h begins in record { domain = (domain_text r, refl); path = is.path; conforms = is.conforms }

-- ---- rows that are received

pub received_held : (list : List Rule) (url : Parts) (now : ℤ) (lines : List (List ℕ)) (rows : List Row)
    (ends : List LineEnd) (new : List Row) → AreHeldRightly rows → AcceptsAll list rows url now lines ends new
    → AreHeldRightly new
received_held list url now lines rows ends new =
    lines_from IsHeldRightly expired_held alone_held (λ _. Unit {0})
    (λ line s url now made _ free utf8 reads is. made_held line s url now made free utf8 reads is)
    list url now lines rows ends new tt

stopped_held : (list : List Rule) (url : Parts) (now : ℤ) (lines : List (List ℕ)) (rows : List Row) (n : ℕ)
    (new : List Row) → AreHeldRightly rows → IsStopped list rows url now lines n new → AreHeldRightly new
stopped_held list url now lines rows n new held (inl none) = subst AreHeldRightly (sym none.1) held
stopped_held list url now lines rows n new held (inr stopped) =
    received_held list url now (take stopped.before lines) rows stopped.taken.0 new held stopped.taken.1

-- however receiving ended
pub however_held : {A B : Type 0} (r : Result A B) (all : A → List LineEnd) (at : B → ℕ) (list : List Rule)
    (url : Parts) (now : ℤ) (lines : List (List ℕ)) (rows new : List Row) → AreHeldRightly rows
    → IfOk r (λ ends. AcceptsAll list rows url now lines (all ends) new)
    → IfErr r (λ stopped. IsStopped list rows url now lines (at stopped) new) → AreHeldRightly new
however_held (Ok ends) all at list url now lines rows new held h g =
    received_held list url now lines rows (all ends) new held h
however_held (Err stopped) all at list url now lines rows new held h g =
    stopped_held list url now lines rows (at stopped) new held g

pub answers_hold : AnswersHoldRightly
answers_hold list rows url now lines new takes held = received_held list url now lines rows takes.0 new held takes.1

-- ---- rows that are picked

pub picked_all : {A : Type 0} (Is : A → Type 0) (xs picked : List A) → ArePicked Is xs picked
    → AllByRecursion Is picked
picked_all Is [] picked p = subst (AllByRecursion Is) (sym p) tt
picked_all Is (x ∷ xs) picked (later, rest, inl is) =
    subst (AllByRecursion Is) (sym is.1) (is.0, picked_all Is xs later rest)
picked_all Is (x ∷ xs) picked (later, rest, inr is) =
    subst (AllByRecursion Is) (sym is.1) (picked_all Is xs later rest)

-- none is dropped
pub all_picked : {A : Type 0} (Is : A → Type 0) (xs : List A) → AllByRecursion Is xs → ArePicked Is xs xs
all_picked Is [] all = refl
all_picked Is (x ∷ xs) all = (xs, all_picked Is xs all.1, inl (all.0, refl))

-- what holds of all holds of those that are picked
pub picked_keeps : {A : Type 0} (Is P : A → Type 0) (xs picked : List A) → ArePicked Is xs picked
    → AllByRecursion P xs → AllByRecursion P picked
picked_keeps Is P [] picked p all = subst (AllByRecursion P) (sym p) tt
picked_keeps Is P (x ∷ xs) picked (later, rest, inl is) all =
    subst (AllByRecursion P) (sym is.1) (all.0, picked_keeps Is P xs later rest all.1)
picked_keeps Is P (x ∷ xs) picked (later, rest, inr is) all =
    subst (AllByRecursion P) (sym is.1) (picked_keeps Is P xs later rest all.1)

-- ---- rows that are kept

slash_piece : IsPiece (codes "/")
unfolding trim_start trim_end chars encode
slash_piece = record {
  trimmed = refl;
  clean = All-cons (λ b. (b == semicolon) ≡ false) 47 [] refl (All-nil (λ b. (b == semicolon) ≡ false));
}

pub reread_held : (law : PairsReadAgain) (bound : BoundReadAgain) (r x : Row) → HasReadPair r → IsHeldRightly r
    → IsReread r x → IsHeldRightly x
reread_held law bound r x own held h = λ begins.
    let name = ap (λ (s : Seen). s.cookie.name) h.raw ∙ (law r.raw.cookie (Ok h.seen) own h.reads).pair.0 in
    let is = held (subst BeginsHost name begins) in
    let again = bound (codes "/") r.raw.cookie h.seen slash_piece own is.conforms h.reads in
    record {
      domain = (is.domain.0, h.domain ∙ is.domain.1);
      path = h.path ∙ is.path;
      conforms = subst IsHost (sym h.raw)
          (record { secure = again.secure; path = again.path; domain = again.domain });
    }

rereads_held : (law : PairsReadAgain) (bound : BoundReadAgain) (rows read : List Row) → HaveReadPairs rows
    → AreHeldRightly rows → Pairwise IsReread rows read → AreHeldRightly read
rereads_held law bound [] [] own held p = tt
rereads_held law bound [] (x ∷ xs) own held p = absurd p
rereads_held law bound (r ∷ rs) [] own held p = absurd p
rereads_held law bound (r ∷ rs) (x ∷ xs) own held p =
    (reread_held law bound r x own.0 held.0 p.0, rereads_held law bound rs xs own.1 held.1 p.1)

pub kept_held : (law : PairsReadAgain) (bound : BoundReadAgain) (rows : List Row) (saving loading : ℤ) (kept : List Row)
    → HaveReadPairs rows → AreHeldRightly rows → Keeps rows saving loading kept → AreHeldRightly kept
kept_held law bound rows saving loading kept own held keeps =
    subst AreHeldRightly (sym keeps.lives)
    (filter_all IsHeldRightly (is_live loading) keeps.read
    (rereads_held law bound (saved saving rows) keeps.read (filter_all HasReadPair (is_saved saving) rows own)
    (filter_all IsHeldRightly (is_saved saving) rows held) keeps.reread))

pub restarts_hold : (law : PairsReadAgain) (bound : BoundReadAgain) → RestartsHoldRightly
restarts_hold law bound rows saving loading kept own held keeps =
    let all = kept_held law bound rows saving loading kept own held keeps in
    (all, all_picked IsHeldRightly kept all)

picked_once : {A : Type 0} (Is : A → Type 0) (xs picked : List A) → AllByRecursion Is xs → ArePicked Is xs picked
    → picked ≡ xs
picked_once Is [] picked all p = p
picked_once Is (x ∷ xs) picked all (later, rest, inl is) =
    is.1 ∙ ap (λ ys. x ∷ ys) (picked_once Is xs later all.1 rest)
picked_once Is (x ∷ xs) picked all (later, rest, inr is) = absurd (is.0 all.0)

pub saved_hold : (kept : SavedRowsAreKept) (law : PairsReadAgain) (bound : BoundReadAgain) → SavedRowsHoldRightly
saved_hold kept law bound rows saving loading text store left own held grouped bytes saves loads picked =
    let keeps = kept rows saving loading text store own grouped bytes saves loads in
    let all = kept_held law bound rows saving loading store.rows own held keeps in
    subst (Keeps rows saving loading) (sym (picked_once IsHeldRightly store.rows left all picked)) keeps

-- ---- the names that begin with `__Host-`

abbrev pub begins_host : Counts
begins_host name = bytes_eq (take 7 name) host_text
