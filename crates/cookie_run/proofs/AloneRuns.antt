-- Nothing refutes that there is a run of the acts that concern a host: each line that was taken is taken beside other
-- rows too, each header is there, and each row that is saved is read back as one.
use Rattle.std.proofs.Common.{Bool, false, ◌⊎◌, ℕ, ℤ, pos, ◌*ℤ◌, List, [], ◌∷◌, sym, refl, subst, inl, inr, Option}
use Rattle.std.proofs.Common.{Some, None, Result, Ok, Err, arith}
use Rattle.std.specs.Prelude.{map}
use Rattle.jiff.proofs.SpanFacts.{signed_arith}
use Rattle.cookie_text.specs.Printing.{printed}
use Rattle.cookie_text.specs.ReadingBack.{Pairwise}
use Rattle.cookie_text.specs.Record.{Seen, unsliced}
use Rattle.cookie_text.specs.declared.error.ParseError.{ParseError}
use Rattle.publicsuffix.specs.Rules.{Rule}
use Rattle.store_parts.specs.Expiry.{whole_second}
use Rattle.store_parts.specs.declared.error.CookieError.{CookieError}
use Rattle.store_parts.specs.declared.error.CookieError.TheVariants.{NonHttpScheme, PublicSuffix, DomainMismatch, Parse}
use Rattle.url.specs.Parts.{Parts, IsValid}
use Rattle.cookie_store.specs.Given.{ArePicked, IsGiven, pair_of}
use Rattle.cookie_store.specs.Insertion.{End, settled, refused, alone, IsGuarded, Settles, Fits, Admits, Inserts}
use Rattle.cookie_store.specs.Insertion.{InsertsRead}
use Rattle.cookie_store.specs.Placing.{is_saved, saved}
use Rattle.cookie_store.specs.Rows.{Row, live}
use Rattle.cookie_store.specs.SavedRows.{IsReread, IsWholeDeath}
use Rattle.cookie_store.specs.declared.action.StoreAction.{StoreAction}
use Rattle.cookie_store.proofs.ReadableLemmas.{IsUnrefuted, pair_reads}
use Rattle.cookie_client.specs.Accept.{Accepts, AcceptsAll, text_end}
use Rattle.cookie_client.specs.Steps.{Act, Visits, Answers, Asks, Restarts, OneStep}
use Rattle.cookie_store.specs.Laws.{OneOrder}
use Rattle.cookie_client.specs.Header.{IsHeader, header_of}
use Rattle.cookie_run.specs.Headline.{Each}
use Rattle.cookie_client.specs.Keeping.{Keeps, HasReadPair, HaveReadPairs}
use Rattle.cookie_run.specs.Play.{Plays}
use Rattle.cookie_run.specs.Strangers.{Concerns, IsOnly, IsNoExchange, HeaderAlone}
use Rattle.cookie_client.specs.declared.outcome.LineEnd.{LineEnd}
use Rattle.cookie_client.specs.declared.outcome.LineEnd.TheVariants.{NotText, HostPrefix}
use Rattle.cookie_client.specs.declared.command.Reading.{Reading}
use Rattle.cookie_client.specs.declared.command.Reading.TheVariants.{Header}
use Rattle.cookie_client.proofs.ClientRows.{kept_pairs, received_pairs}
use Rattle.cookie_client.proofs.ComingBack.{filter_all}
use Rattle.cookie_text.proofs.PairsAgain.{prints_pair}

either : (P : Type 0) → IsUnrefuted (P ⊎ (¬ P))
either P refuted = refuted (inr (λ p. refuted (inl p)))

-- ---- those of a list, and a header

some_picked : {A : Type 0} (Is : A → Type 0) (xs : List A) → IsUnrefuted ((picked : List A) × ArePicked Is xs picked)
some_picked Is [] refuted = refuted ([], refl)
some_picked {A} Is (x ∷ xs) refuted = some_picked Is xs (λ later. either (Is x) (λ so. by later so))
  where
    by : ((picked : List A) × ArePicked Is xs picked) → (Is x ⊎ (¬ (Is x))) → ⊥
    by later (inl is) = refuted (x ∷ later.0, (later.0, later.1, inl (is, refl)))
    by later (inr isnt) = refuted (later.0, (later.0, later.1, inr (isnt, refl)))

some_header : OneOrder → (rows : List Row) (url : Parts) (at : ℤ) → IsValid url
    → IsUnrefuted ((header : List ℕ) × IsHeader rows url at header)
some_header order rows url at valid refuted =
    some_picked (λ row. IsGiven row url at) rows (λ given.
    let first = order.there given.0 in
    refuted (
      header_of (map pair_of first.0),
      record {
        valid = valid;
        given = given.0;
        are_given = given.1;
        ordered = first.0;
        longest = first.1;
        printed = refl;
      },
    ))

-- ---- a line that was taken, beside other rows

module _ (list : List Rule) (url : Parts) (now : ℤ) (rows rest : List Row) where
  settles_too : (row : Row) → IsUnrefuted ((end : End) × Settles rest url now row end)
  settles_too row refuted = either (IsGuarded rest url now row) (λ so. by so)
    where
      by : IsGuarded rest url now row ⊎ (¬ (IsGuarded rest url now row)) → ⊥
      by (inl guarded) = refuted (refused NonHttpScheme rest, inl (guarded, refl))
      by (inr free) = refuted (settled rest now row, inr (free, refl))

  fits_too : (row : Row) (end : End) → Fits rows url now row end
      → IsUnrefuted ((e : End) × Fits rest url now row e)
  fits_too row end (inl mismatch) refuted = refuted (refused DomainMismatch rest, inl (mismatch.0, refl))
  fits_too row end (inr fits) refuted = settles_too row (λ x. refuted (x.0, inr (fits.0, x.1)))

  admits_too : (row : Row) (end : End) → Admits list rows url now row end
      → IsUnrefuted ((e : End) × Admits list rest url now row e)
  admits_too row end (inl unlisted) refuted =
      fits_too row end unlisted.1 (λ x. refuted (x.0, inl (unlisted.0, x.1)))
  admits_too row end (inr (inl own)) refuted =
      fits_too (alone row) end own.2 (λ x. refuted (x.0, inr (inl (own.0, own.1, x.1))))
  admits_too row end (inr (inr listed)) refuted =
      refuted (refused PublicSuffix rest, inr (inr (listed.0, listed.1, refl)))

  inserts_too : (row : Row) (end : End) → Inserts list rows url now row end
      → IsUnrefuted ((e : End) × Inserts list rest url now row e)
  inserts_too row end (inl barred) refuted = refuted (refused NonHttpScheme rest, inl (barred.0, refl))
  inserts_too row end (inr allowed) refuted =
      admits_too row end allowed.1 (λ x. refuted (x.0, inr (allowed.0, x.1)))

  read_too : (read : Result Seen ParseError) (end : End) → InsertsRead list rows url now read end
      → IsUnrefuted ((answer : Result StoreAction CookieError) × (new : List Row)
      × InsertsRead list rest url now read (answer, new))
  read_too (Err e) end h refuted = refuted (Err Parse, rest, refl)
  read_too (Ok s) end (inl h) refuted = refuted (Err h.0, rest, inl (h.0, h.1, h.2, refl))
  read_too (Ok s) end (inr made) refuted =
      inserts_too made.0 end made.2 (λ x. refuted (x.0.0, x.0.1, inr (made.0, made.1, x.1)))

  line_too : (line : List ℕ) (end : LineEnd) (new : List Row) → Accepts list rows url now line end new
      → IsUnrefuted ((e : LineEnd) × (left : List Row) × Accepts list rest url now line e left)
  line_too line end new (inl against) refuted = refuted (HostPrefix, rest, inl (against.0, refl, refl))
  line_too line end new (inr (free, inl wrong)) refuted =
      refuted (NotText, rest, inr (free, inl (wrong.0, refl, refl)))
  line_too line end new (inr (free, inr right)) refuted =
      read_too right.1.0 (right.1.2.0, new) right.1.2.1
      (λ x. refuted (text_end x.0, x.1, inr (free, inr (right.0, (right.1.0, right.1.1, (x.0, x.2, refl))))))

lines_too : (list : List Rule) (url : Parts) (now : ℤ) (lines : List (List ℕ)) (rows rest : List Row)
    (ends : List LineEnd) (new : List Row) → AcceptsAll list rows url now lines ends new
    → IsUnrefuted ((es : List LineEnd) × (left : List Row) × AcceptsAll list rest url now lines es left)
lines_too list url now [] rows rest ends new t refuted = refuted ([], rest, (refl, refl))
lines_too list url now (line ∷ lines) rows rest [] new t refuted = absurd t
lines_too list url now (line ∷ lines) rows rest (e ∷ ends) new t refuted =
    line_too list url now rows rest line e t.0 t.1
    (λ x. lines_too list url now lines t.0 x.1 ends new t.2
    (λ y. refuted (x.0 ∷ y.0, y.1, (x.1, x.2, y.2))))

-- ---- what is kept

whole_of : Option ℤ → Option ℤ
whole_of None = None
whole_of (Some death) = Some (whole_second death *ℤ pos 1_000_000_000)

whole_death : (death : Option ℤ) → IsWholeDeath death (whole_of death)
unfolding whole_of
whole_death None = tt
whole_death (Some m) = record {
  seconds = whole_second m;
  whole = refl;
  below = omega (arith, signed_arith);
  greatest = λ n h. omega (arith, signed_arith, h);
}

reread_too : (row : Row) → HasReadPair row → IsUnrefuted ((read : Row) × IsReread row read)
reread_too row own refuted =
    pair_reads (printed row.raw.cookie) (prints_pair row.raw.cookie own) (λ text. refuted (
      record { raw = unsliced text.0.cookie; path = row.path; domain = row.domain; death = whole_of row.death },
      record {
        seen = text.0;
        reads = text.1;
        raw = refl;
        path = refl;
        domain = refl;
        death = whole_death row.death;
      },
    ))

all_reread : (rows : List Row) → HaveReadPairs rows → IsUnrefuted ((read : List Row) × Pairwise IsReread rows read)
all_reread [] own refuted = refuted ([], tt)
all_reread (r ∷ rs) own refuted =
    reread_too r own.0 (λ x. all_reread rs own.1 (λ y. refuted (x.0 ∷ y.0, (x.1, y.1))))

some_kept : (rows : List Row) (now : ℤ) → HaveReadPairs rows → IsUnrefuted ((kept : List Row) × Keeps rows now now kept)
some_kept rows now own refuted =
    all_reread (saved now rows) (filter_all HasReadPair (is_saved now) rows own)
    (λ read. refuted (live now read.0, record { read = read.0; reread = read.1; lives = refl }))

-- ---- acts

module _ (order : OneOrder) (list : List Rule) (host key : List ℕ) where
  abbrev StepsOn : List Row → Act → Type 0
  StepsOn rest act =
      (said : List Reading) × (left : List Row) × OneStep false list key rest act said left × HaveReadPairs left

  step_too : (b : Bool) (act : Act) (rows mid rest : List Row) (told : List Reading) → IsNoExchange list host act
      → Concerns list host act → OneStep b list key rows act told mid → HaveReadPairs rest
      → IsUnrefuted (StepsOn rest act)
  step_too b (Visits url at commands arrival) rows mid rest told none concerns s own refuted = none concerns
  step_too b (Answers url lines at) rows mid rest told none concerns s own refuted =
      lines_too list url at lines rows rest s.1.0 mid s.1.1 (λ x. refuted (
        [],
        x.1,
        (refl, (x.0, x.2)),
        received_pairs list url at lines rest x.0 x.1 own x.2,
      ))
  step_too b (Asks url at) rows mid rest told none concerns s own refuted =
      some_header order rest url at s.0.1.valid (λ x. refuted (Header x.0 ∷ [], rest, ((x.0, x.1, refl), refl), own))
  step_too b (Restarts at) rows mid rest told none concerns s own refuted =
      some_kept rest at own (λ x. refuted ([], x.0, (refl, x.1), kept_pairs rest at own x.0 x.1))

  play_too : (b : Bool) (acts few : List Act) (told : List (List Reading)) (rows new rest : List Row)
      → Each (IsNoExchange list host) acts → IsOnly list host acts few → Plays b list key rows acts told new
      → HaveReadPairs rest
      → IsUnrefuted ((said : List (List Reading)) × (left : List Row) × Plays false list key rest few said left)
  play_too b [] few told rows new rest none only p own refuted =
      refuted ([], rest, subst (λ x. Plays false list key rest x [] rest) (sym only) refl)
  play_too b (act ∷ acts) few [] rows new rest none only p own refuted = absurd p
  play_too b (act ∷ acts) few (t ∷ told) rows new rest none (later, only, inl is) p own refuted =
      step_too b act rows p.0 rest t none.0 is.0 p.1 own
      (λ x. play_too b acts later told p.0 new x.1 none.1 only p.2 x.3
      (λ y. refuted (
        x.0 ∷ y.0,
        y.1,
        subst (λ f. Plays false list key rest f (x.0 ∷ y.0) y.1) (sym is.1) (x.1, x.2, y.2),
      )))
  play_too b (act ∷ acts) few (t ∷ told) rows new rest none (later, only, inr is) p own refuted =
      play_too b acts later told p.0 new rest none.1 only p.2 own
      (λ y. refuted (y.0, y.1, subst (λ f. Plays false list key rest f y.0 y.1) (sym is.1) y.2))

  pub header_too : (b : Bool) (before : List Act) (told : List (List Reading)) (rows : List Row) (url : Parts) (at : ℤ)
      → Plays b list key [] before told rows → IsValid url → Each (IsNoExchange list host) before
      → IsUnrefuted (HeaderAlone list key host before url at)
  header_too b before told rows url at p valid none refuted =
      some_picked (Concerns list host) before
      (λ few. play_too b before few.0 told [] rows [] none few.1 p tt
      (λ run. some_header order run.1 url at valid
      (λ header. refuted (record {
        few = few.0;
        only = few.1;
        told = run.0;
        rows = run.1;
        ran = run.2;
        header = header.0;
        is_header = header.1;
      }))))
