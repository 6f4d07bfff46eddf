-- The lines of an exchange, one after another.
use Rattle.std.proofs.Common.{◌≡◌, ℕ, ℤ, ◌+◌, ◌<◌, List, [], ◌∷◌, ◌++◌, length, map, take, drop, get_or}
use Rattle.std.proofs.Common.{inl, inr, refl, sym, ap, subst, ◌∙◌, append_assoc, Result, Ok, Err}
use Rattle.std.proofs.lemmas.List.{append-nil, drop_more, map-append, take-append-drop, take_more}
use Rattle.std.specs.Prelude.{IfErr, Bool, Some}
use Rattle.std.specs.Int.{to_le_bytes, w64}
use Rattle.jiff.specs.Types.{DateTime}
use Rattle.cookie_text.specs.Record.{Seen}
use Rattle.cookie_client.specs.Ending.{IsKeptUntil}
use Rattle.cookie_client.specs.RingSession.{Ringed, SetsUntil}
use Rattle.cookie_client.specs.declared.ending.EndingWay.{EndingWay}
use Rattle.cookie_client.specs.declared.ending.EndingWay.TheVariants as ends
pub use Rattle.cookie_client.proofs.Outcomes.{ok_gives, err_gives}
use Rattle.fonnalich_c.specs.Exchange.{AllTell, LineTells, RefusesLine, SetsUntilBy, StopsAt}
use Rattle.fonnalich_c.specs.Exchange.{ending_nonce_length}
use Rattle.fonnalich_c.specs.Items.{item, placed_text}
use Rattle.fonnalich_c.specs.Numbers.{refusal_number}
use Rattle.fonnalich_c.specs.Room.{Gives, IsWritten}
use Rattle.fonnalich_c.specs.declared.refusal.Refusal.{Refusal}

-- ---- outcomes

pub fault_gives : {A E : Type 0} (r : Result A E) (P Q : E → Type 0) → ((e : E) → P e → Q e) → IfErr r P → IfErr r Q
fault_gives (Ok x) P Q f h = tt
fault_gives (Err e) P Q f h = f e h

-- ---- the lines

all_more : (on_ring : Bool) (old mid new : Ringed) (now : DateTime) (nonces between left : List ℕ)
    (lines : List (List ℕ)) (line told text : List ℕ) → AllTell on_ring old now nonces lines told mid between
    → LineTells on_ring mid now between line text new left
    → AllTell on_ring old now nonces (lines ++ line ∷ []) (told ++ text) new left
all_more on_ring old mid new now nonces between left [] line told text all one = (
  text,
  [],
  new,
  left,
  subst (λ n. LineTells on_ring old now n line text new left) all.2
      (subst (λ s. LineTells on_ring s now between line text new left) all.1 one),
  (refl, refl, refl),
  ap (λ t. t ++ text) all.0 ∙ sym (append-nil text),
)
all_more on_ring old mid new now nonces between left (l ∷ lines) line told text all one = (
  all.0,
  all.1 ++ text,
  all.2,
  all.3,
  all.4,
  all_more on_ring all.2 mid new now all.3 between left lines line all.1 text all.5 one,
  ap (λ t. t ++ text) all.6 ∙ append_assoc all.0 all.1 text,
)

-- the texts of the first elements, and of one more
pub texts_more : {A : Type 0} (text : A → List ℕ) (xs : List A) (i : ℕ) (d : A) → i < length xs
    → map text (take (i + 1) xs) ≡ map text (take i xs) ++ text (get_or xs i d) ∷ []
texts_more text xs i d less =
    ap (map text) (take_more xs i d less) ∙ map-append text (take i xs) (get_or xs i d ∷ [])

pub next_tell : {A : Type 0} (on_ring : Bool) (text : A → List ℕ) (xs : List A) (i : ℕ) (d : A)
    (old mid new : Ringed) (now : DateTime) (nonces between left told later more : List ℕ) → i < length xs
    → AllTell on_ring old now nonces (map text (take i xs)) told mid between
    → LineTells on_ring mid now between (text (get_or xs i d)) more new left → later ≡ told ++ more
    → AllTell on_ring old now nonces (map text (take (i + 1) xs)) later new left
next_tell on_ring text xs i d old mid new now nonces between left told later more less all one same =
    let line = text (get_or xs i d) in
    subst (λ ls. AllTell on_ring old now nonces ls later new left) (sym (texts_more text xs i d less))
    (subst (λ t. AllTell on_ring old now nonces (map text (take i xs) ++ line ∷ []) t new left) (sym same)
    (all_more on_ring old mid new now nonces between left (map text (take i xs)) line told more all one))

-- the next line is refused
pub stops_at : {A : Type 0} (on_ring : Bool) (text : A → List ℕ) (xs : List A) (i : ℕ) (d : A)
    (old mid : Ringed) (now : DateTime) (nonces left told : List ℕ) (refused : Refusal) → i < length xs
    → AllTell on_ring old now nonces (map text (take i xs)) told mid left
    → RefusesLine on_ring now left (text (get_or xs i d)) refused → StopsAt on_ring old now (map text xs) nonces refused
stops_at on_ring text xs i d old mid now nonces left told refused less all why = record {
  before = map text (take i xs);
  line = text (get_or xs i d);
  after = map text (drop (i + 1) xs);
  cut = ap (map text) (sym (take-append-drop i xs) ∙ ap (λ ys. take i xs ++ ys) (drop_more xs i d less))
      ∙ map-append text (take i xs) (get_or xs i d ∷ drop (i + 1) xs);
  told = told;
  session = mid;
  left = left;
  done = all;
  refuses = why;
}

-- ---- a value that is read

pub read_more : (told first later value text : List ℕ) (place : ℕ) → first ≡ told ++ item value
    → text ≡ to_le_bytes w64 place → later ≡ first ++ item text → later ≡ told ++ placed_text (Some (value, place))
read_more told first later value text place one same two =
    two ∙ ap (λ f. f ++ item text) one ∙ append_assoc told (item value) (item text)
    ∙ ap (λ t. told ++ (item value ++ item t)) same

-- ---- a value that ends

-- the text of a value that ends is by the first of these nonces
kept_by : (May : List ℕ → Type 0) (nonces : List ℕ) (way : EndingWay) (key name value : List ℕ) (until : DateTime)
    (text : List ℕ)
    → ((nonce : List ℕ) → length nonce ≡ ending_nonce_length way → May nonce
    → nonce ≡ take (ending_nonce_length way) nonces)
    → IsKeptUntil May way key name value until text
    → IsKeptUntil (λ nonce. nonce ≡ take (ending_nonce_length way) nonces) way key name value until text
kept_by May nonces ends.Signed key name value until text so kept = kept
kept_by May nonces ends.Sealed key name value until text so kept =
    (kept.0, kept.1, so kept.0 kept.1 kept.2, kept.3)

pub set_by : (May : List ℕ → Type 0) (nonces : List ℕ) (old new : Ringed) (way : EndingWay) (cookie : Seen)
    (until : DateTime)
    → ((nonce : List ℕ) → length nonce ≡ ending_nonce_length way → May nonce
    → nonce ≡ take (ending_nonce_length way) nonces)
    → SetsUntil May old way cookie until new → SetsUntilBy old way cookie until nonces new
set_by May nonces old new way cookie until so sets = record {
  ending = sets.ending;
  ends = sets.ends;
  accepted = sets.accepted;
  kept = sets.kept;
  is_kept = (
    sets.is_kept.0,
    kept_by May nonces way old.ring.current sets.ending.cookie.name sets.ending.cookie.value until sets.is_kept.0 so
        sets.is_kept.1,
    sets.is_kept.2,
  );
  parts = sets.parts;
  sets = sets.sets;
}

-- ---- what an export gives

-- an answer that was written, or a refusal, by the number that crosses to C
pub answered : (IsAnswer : List ℕ → Type 0) (IsRefusal : Refusal → Type 0) (answer lent out written : List ℕ)
    (number told : ℤ) → told ≡ number → lent ≡ answer → IsAnswer answer → IsWritten lent out written number
    → Gives IsAnswer IsRefusal out written told
answered IsAnswer IsRefusal answer lent out written number told is same holds wrote =
    inl (
      answer,
      holds,
      subst (λ n. IsWritten answer out written n) (sym is)
          (subst (λ text. IsWritten text out written number) same wrote),
    )

pub refused_by : (IsAnswer : List ℕ → Type 0) (IsRefusal : Refusal → Type 0) (refused : Refusal) (out : List ℕ)
    (number told : ℤ) → told ≡ number → number ≡ refusal_number refused → IsRefusal refused
    → Gives IsAnswer IsRefusal out out told
refused_by IsAnswer IsRefusal refused out number told is same holds = inr (refused, holds, refl, is ∙ same)
