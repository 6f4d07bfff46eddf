-- How an insertion ends.
use Rattle.std.proofs.Common.{◌≡◌, ◌≢◌, ◌⊎◌, inl, inr, ℤ, Bool, true, false, cond, not, List, [], ◌∷◌, ◌++◌, refl, sym}
use Rattle.std.proofs.Common.{ap, subst, ◌∙◌, true≢false}
use Rattle.std.specs.Prelude.{Some, Result, Ok, Err}
use Rattle.std.specs.List.{list_any}
use Rattle.std.proofs.lemmas.Bool.{cond-false}
use Rattle.cookie_text.specs.Record.{Seen}
use Rattle.cookie_text.specs.declared.error.ParseError.{ParseError}
use Rattle.publicsuffix.specs.Rules.{Rule}
use Rattle.store_parts.specs.Expiry.{is_dead}
use Rattle.store_parts.specs.declared.error.CookieError.{CookieError}
use Rattle.store_parts.specs.declared.error.CookieError.TheVariants.{NonHttpScheme, NonRelativeScheme, PublicSuffix}
use Rattle.store_parts.specs.declared.error.CookieError.TheVariants.{DomainMismatch, Expired, Parse, UnspecifiedDomain}
use Rattle.store_parts.specs.declared.error.CookieError.TheVariants.{OutOfMemory}
use Rattle.url.specs.Parts.{Parts}
use Rattle.cookie_store.specs.Given.{ArePicked}
use Rattle.cookie_store.specs.Insertion.{End, action_of, settled, Settles, Fits, Admits, Inserts, InsertsRead, Receives}
use Rattle.cookie_store.specs.Insertion.{ReceivesAll, OrLacks, LacksMemory, alone, refused}
use Rattle.cookie_store.specs.Rows.{Row, HaveOwnKeys, key_of, found_live, is_live, is_live_of, ended, put}
use Rattle.cookie_store.specs.Steps.{Passes}
use Rattle.cookie_store.specs.declared.action.StoreAction.{StoreAction}
use Rattle.cookie_store.specs.declared.action.StoreAction.TheVariants.{Inserted, ExpiredExisting, UpdatedExisting}
use Rattle.cookie_store.proofs.ApartLemmas.{ended_apart, put_apart}
use Rattle.cookie_store.proofs.PlaceLaws.{put_is_found, find_both}

-- ---- which answers are want of memory

abbrev pub is_lack : CookieError → Bool
is_lack OutOfMemory = true
is_lack NonHttpScheme = false
is_lack NonRelativeScheme = false
is_lack DomainMismatch = false
is_lack Expired = false
is_lack Parse = false
is_lack PublicSuffix = false
is_lack UnspecifiedDomain = false

abbrev lacks : Result StoreAction CookieError → Bool
lacks (Ok action) = false
lacks (Err cause) = is_lack cause

refutes : (a : Result StoreAction CookieError) → lacks a ≡ false → a ≢ Err OutOfMemory
refutes a fails is = true≢false (sym (ap lacks is) ∙ fails)

module _ (list : List Rule) (url : Parts) (now : ℤ) where
  settled_lacks : (rows : List Row) (row : Row) → lacks (settled rows now row).0 ≡ false
  settled_lacks rows row = by (is_dead now row.death) (list_any (is_live_of now row) rows)
    where
      by : (d l : Bool)
          → lacks (cond d (cond l (Ok ExpiredExisting, ended now row rows) (refused Expired rows))
          (Ok (action_of row rows), put row rows)).0 ≡ false
      by true true = refl
      by true false = refl
      by false l = refl

  fits_lacks : (rows : List Row) (row : Row) (end : End) → Fits rows url now row end → lacks end.0 ≡ false
  fits_lacks rows row end (inl mismatch) = ap (λ (e : End). lacks e.0) mismatch.1
  fits_lacks rows row end (inr (covers, inl guarded)) = ap (λ (e : End). lacks e.0) guarded.1
  fits_lacks rows row end (inr (covers, inr free)) = ap (λ (e : End). lacks e.0) free.1 ∙ settled_lacks rows row

  pub inserts_lacks : (rows : List Row) (row : Row) (end : End) → Inserts list rows url now row end
      → lacks end.0 ≡ false
  inserts_lacks rows row end (inl barred) = ap (λ (e : End). lacks e.0) barred.1
  inserts_lacks rows row end (inr (free, inl (unlisted, fits))) = fits_lacks rows row end fits
  inserts_lacks rows row end (inr (free, inr (inl (listed, own, fits)))) = fits_lacks rows (alone row) end fits
  inserts_lacks rows row end (inr (free, inr (inr (listed, other, is)))) = ap (λ (e : End). lacks e.0) is

  other_cause : (cause : CookieError) → cause ≢ OutOfMemory → is_lack cause ≡ false
  other_cause OutOfMemory differs = absurd (differs refl)
  other_cause NonHttpScheme differs = refl
  other_cause NonRelativeScheme differs = refl
  other_cause DomainMismatch differs = refl
  other_cause Expired differs = refl
  other_cause Parse differs = refl
  other_cause PublicSuffix differs = refl
  other_cause UnspecifiedDomain differs = refl

  read_lacks : (rows : List Row) (read : Result Seen ParseError) (end : End)
      → InsertsRead list rows url now read end → lacks end.0 ≡ false
  read_lacks rows (Err error) end is = ap (λ (e : End). lacks e.0) is
  read_lacks rows (Ok seen) end (inl (cause, differs, why, is)) =
      ap (λ (e : End). lacks e.0) is ∙ other_cause cause differs
  read_lacks rows (Ok seen) end (inr (made, is, inserts)) = inserts_lacks rows made end inserts

  -- what was received with want of memory lacks it
  pub met_want : (rows new : List Row) (seen : Seen) → Receives list rows url now (Ok seen) (Err OutOfMemory, new)
      → LacksMemory rows url (Ok seen) (Err OutOfMemory, new)
  met_want rows new seen (inl inserts) =
      absurd (true≢false (read_lacks rows (Ok seen) (Err OutOfMemory, new) inserts))
  met_want rows new seen (inr want) = want

  pub passed : (rows new : List Row) (seen : Seen) → Passes list rows url now seen new
      → (end : End) × InsertsRead list rows url now (Ok seen) end × (end.1 ≡ new)
  passed rows new seen (answer, ample, inl inserts) = ((answer, new), inserts, refl)
  passed rows new seen (answer, ample, inr want) = absurd (ample (ap (λ (e : End). e.0) want.1))

  -- one more
  pub receives_one_more : (rows mid new : List Row) (before : List Seen) (seen : Seen)
      → ReceivesAll list rows url now before mid → Passes list mid url now seen new
      → ReceivesAll list rows url now (before ++ seen ∷ []) new
  receives_one_more rows mid new [] seen same passes =
      let p = passed mid new seen passes in
      subst (λ rs. ReceivesAll list rs url now (seen ∷ []) new) same (p.0, p.1, sym p.2)
  receives_one_more rows mid new (first ∷ before) seen all passes =
      (all.0, all.1, receives_one_more all.0.1 mid new before seen all.2 passes)

-- ---- an end, or want of memory in its place

pub or_lacks-weaker : (P Q : End → Type 0) → ((e : End) → P e → Q e) → (rows : List Row) (end : End)
    → OrLacks P rows end → OrLacks Q rows end
or_lacks-weaker P Q f rows end (inl p) = inl (f end p)
or_lacks-weaker P Q f rows end (inr (action, new, puts, p, is)) = inr (action, new, puts, f (Ok action, new) p, is)

abbrev is_expiry : StoreAction → Bool
is_expiry ExpiredExisting = true
is_expiry Inserted = false
is_expiry UpdatedExisting = false

pub action_puts : (row : Row) (rows : List Row) → action_of row rows ≢ ExpiredExisting
action_puts row rows is = true≢false (sym (ap is_expiry is) ∙ by _)
  where
    by : (b : Bool) → is_expiry (cond b UpdatedExisting Inserted) ≡ false
    by true = refl
    by false = refl

-- ---- one end

pub picked_once : {A : Type 0} (Is : A → Type 0) (xs ys zs : List A) → ArePicked Is xs ys → ArePicked Is xs zs → ys ≡ zs
picked_once Is [] ys zs a b = a ∙ sym b
picked_once Is (x ∷ xs) ys zs (us, a, inl p) (vs, b, inl q) =
    p.1 ∙ ap (λ l. x ∷ l) (picked_once Is xs us vs a b) ∙ sym q.1
picked_once Is (x ∷ xs) ys zs (us, a, inl p) (vs, b, inr q) = absurd (q.0 p.0)
picked_once Is (x ∷ xs) ys zs (us, a, inr p) (vs, b, inl q) = absurd (p.0 q.0)
picked_once Is (x ∷ xs) ys zs (us, a, inr p) (vs, b, inr q) = p.1 ∙ picked_once Is xs us vs a b ∙ sym q.1

module _ (rows : List Row) (url : Parts) (now : ℤ) (a b : End) where
  settles_once : (row : Row) → Settles rows url now row a → Settles rows url now row b → a ≡ b
  settles_once row (inl x) (inl y) = x.1 ∙ sym y.1
  settles_once row (inl x) (inr y) = absurd (y.0 x.0)
  settles_once row (inr x) (inl y) = absurd (x.0 y.0)
  settles_once row (inr x) (inr y) = x.1 ∙ sym y.1

  fits_once : (row : Row) → Fits rows url now row a → Fits rows url now row b → a ≡ b
  fits_once row (inl x) (inl y) = x.1 ∙ sym y.1
  fits_once row (inl x) (inr y) = absurd (x.0 y.0)
  fits_once row (inr x) (inl y) = absurd (y.0 x.0)
  fits_once row (inr x) (inr y) = settles_once row x.1 y.1

  admits_once : (list : List Rule) (row : Row) → Admits list rows url now row a → Admits list rows url now row b → a ≡ b
  admits_once list row (inl x) (inl y) = fits_once row x.1 y.1
  admits_once list row (inl x) (inr (inl y)) = absurd (x.0 y.0)
  admits_once list row (inl x) (inr (inr y)) = absurd (x.0 y.0)
  admits_once list row (inr (inl x)) (inl y) = absurd (y.0 x.0)
  admits_once list row (inr (inr x)) (inl y) = absurd (y.0 x.0)
  admits_once list row (inr (inl x)) (inr (inl y)) = fits_once (alone row) x.2 y.2
  admits_once list row (inr (inl x)) (inr (inr y)) = absurd (y.1 x.1)
  admits_once list row (inr (inr x)) (inr (inl y)) = absurd (x.1 y.1)
  admits_once list row (inr (inr x)) (inr (inr y)) = x.2 ∙ sym y.2

  pub inserts_once : (list : List Rule) (row : Row) → Inserts list rows url now row a → Inserts list rows url now row b
      → a ≡ b
  inserts_once list row (inl x) (inl y) = x.1 ∙ sym y.1
  inserts_once list row (inl x) (inr y) = absurd (y.0 x.0)
  inserts_once list row (inr x) (inl y) = absurd (x.0 y.0)
  inserts_once list row (inr x) (inr y) = admits_once list row x.1 y.1

-- ---- keys stay apart

settled_apart : (now : ℤ) (row : Row) (rows : List Row) → HaveOwnKeys rows → HaveOwnKeys (settled rows now row).1
settled_apart now row rows apart = by (is_dead now row.death) (list_any (is_live_of now row) rows)
  where
    by : (d l : Bool)
        → HaveOwnKeys (cond d (cond l (Ok ExpiredExisting, ended now row rows) (refused Expired rows))
        (Ok (action_of row rows), put row rows)).1
    by true true = ended_apart now row rows apart
    by true false = apart
    by false l = put_apart row rows apart

module _ (rows : List Row) (url : Parts) (now : ℤ) (end : End) (apart : HaveOwnKeys rows) where
  same : (other : List Row) → end.1 ≡ other → HaveOwnKeys other → HaveOwnKeys end.1
  same other is h = subst HaveOwnKeys (sym is) h

  fits_apart : (row : Row) → Fits rows url now row end → HaveOwnKeys end.1
  fits_apart row (inl x) = same rows (ap (λ (e : End). e.1) x.1) apart
  fits_apart row (inr (covers, inl x)) = same rows (ap (λ (e : End). e.1) x.1) apart
  fits_apart row (inr (covers, inr x)) =
      same (settled rows now row).1 (ap (λ (e : End). e.1) x.1) (settled_apart now row rows apart)

  pub inserts_apart : (list : List Rule) (row : Row) → Inserts list rows url now row end → HaveOwnKeys end.1
  inserts_apart list row (inl x) = same rows (ap (λ (e : End). e.1) x.1) apart
  inserts_apart list row (inr (free, inl x)) = fits_apart row x.1
  inserts_apart list row (inr (free, inr (inl x))) = fits_apart (alone row) x.2
  inserts_apart list row (inr (free, inr (inr x))) = same rows (ap (λ (e : End). e.1) x.2) apart

-- ---- what was inserted is got

put_is_got : (now : ℤ) (row : Row) (rows : List Row) → is_dead now row.death ≡ false
    → found_live now (key_of row) (put row rows) ≡ Some row
put_is_got now row rows lives =
    find_both _ (is_live now) row (ap not lives) (put row rows) (put_is_found row rows)

abbrev is_ok : Result StoreAction CookieError → Bool
is_ok (Ok action) = true
is_ok (Err cause) = false

module _ (rows : List Row) (url : Parts) (now : ℤ) (action : StoreAction) (new : List Row) where
  never : {E : Type 0} (cause : CookieError) → (Ok action, new) ≡ refused cause rows → E
  never cause is = absurd (true≢false (ap (λ (e : End). is_ok e.0) is))

  fits_got : (row : Row) → is_dead now row.death ≡ false → Fits rows url now row (Ok action, new)
      → found_live now (key_of row) new ≡ Some row
  fits_got row lives (inl x) = never DomainMismatch x.1
  fits_got row lives (inr (covers, inl x)) = never NonHttpScheme x.1
  fits_got row lives (inr (covers, inr x)) =
      let is : new ≡ put row rows =
      ap (λ (e : End). e.1) x.1 ∙ ap (λ (e : End). e.1) (cond-false (is_dead now row.death) _ _ lives) in
      ap (found_live now (key_of row)) is ∙ put_is_got now row rows lives

  pub inserted_got : (list : List Rule) (row : Row) → is_dead now row.death ≡ false
      → Inserts list rows url now row (Ok action, new)
      → (stored : Row) × ((stored ≡ row) ⊎ (stored ≡ alone row)) × (found_live now (key_of row) new ≡ Some stored)
  inserted_got list row lives (inl x) = never NonHttpScheme x.1
  inserted_got list row lives (inr (free, inl x)) = (row, inl refl, fits_got row lives x.1)
  inserted_got list row lives (inr (free, inr (inl x))) = (alone row, inr refl, fits_got (alone row) lives x.2)
  inserted_got list row lives (inr (free, inr (inr x))) = never PublicSuffix x.2
