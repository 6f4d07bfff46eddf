-- What the program answers, put together of what its steps say.
use Rattle.std.proofs.Common.{◌≡◌, ◌⊎◌, ℕ, List, [], ◌++◌, Option, Some, None, Result, Ok, Err, inl, inr, refl}
use Rattle.std.proofs.Common.{sym, subst, ap, ◌∙◌}
use Rattle.std.proofs.Common.{ℤ}
use Rattle.kept_file.specs.Locks.{Held, Lock, bytes_of, given_back, kept_so}
use Rattle.std.specs.Prelude.{IsErrOf, IfSome, OnErr, IsErrAnd, option_map, ◌↔◌}
use Rattle.std.specs.Result.{result_map_both}
use Rattle.std.specs.Io.KnownBytes.{Appends}
use Rattle.std.specs.declared.convert.Infallible.{Infallible}
use Rattle.rand_chacha.specs.ChaCha.{ChaCha, of_seed}
use Rattle.cookie.specs.Key.{derived}
use Rattle.cookie.specs.KeyRing.{alone}
use Rattle.publicsuffix.specs.Rules.{Rule}
use Rattle.cookie_run.specs.Drawn.{DrawsSo}
use Rattle.cookie_run.specs.Program.{IsFill, ScriptEnds, ScriptFails, ScriptGives, Asked, AskedGives, Devices}
use Rattle.cookie_run.specs.Program.{IsListToldAs, IsOfFiles, IsToldAs, MakesNoClient, MakesNoList, ProgramFails}
use Rattle.cookie_run.specs.Program.{ProgramTells, RunGives, asked_of}
use Rattle.cookie_run.specs.ProgramKept.{KeepsStore, RunKeeps, put_by, text_of}
use Rattle.cookie_run.specs.ScriptDrawn.{IsScriptBy}
use Rattle.cookie_run.specs.ScriptText.{Runs}
use Rattle.cookie_run.specs.declared.script.ended.Ended.{Ended}
use Rattle.cookie_run.specs.declared.script.ended.Ended.TheVariants.{Whole}
use Rattle.std.specs.Str.{IsUtf8}
use Rattle.publicsuffix.specs.declared.error.ListError.{ListError}
use Rattle.publicsuffix.specs.declared.error.ListError.TheVariants as list
use Rattle.publicsuffix.specs.Rules.{HasFirstFault}
use Rattle.cookie_store.specs.Placing.{saved}
use Rattle.cookie_store.specs.Rows.{Row}
use Rattle.cookie_store.specs.SavedTexts.{OfText, IsAnyBeforeYears, IsReadFault, IsRonRefusal}
use Rattle.store_parts.specs.declared.error.Error.{Error}
use Rattle.store_parts.specs.declared.error.Error.TheVariants.{OutOfMemory}
use Rattle.cookie_client.specs.Loading.{IsNoSavedText}
use Rattle.cookie_run.specs.declared.program.failure.Failure.{Failure}
use Rattle.cookie_run.specs.declared.program.failure.Failure.TheVariants.{StoreFile, StoreText, Memory}

-- ---- the list and the client

-- why a text is no list
pub not_listed : {L : Type 0} (r : Result L ListError) (text : List ℕ) (cause : ListError) (failure : Failure)
    → r ≡ Err cause → IsListToldAs cause failure → (IsErrOf r list.NotText ↔ (¬ IsUtf8 text))
    → ((number : ℕ) → r ≡ Err (list.Rule number) → HasFirstFault text number)
    → MakesNoList text failure
not_listed r text cause failure is (inl told) not_text fault = inr told.1
not_listed r text list.NotText failure is (inr told) not_text fault = inl (told.1, inl (not_text.0 is))
not_listed r text (list.Rule number) failure is (inr told) not_text fault =
    inl (told.1, inr (number, fault number is))
not_listed r text list.OutOfMemory failure is (inr told) not_text fault = absurd (told.0 refl)

-- why a client isn't loaded from a text
pub not_loaded : (text : List ℕ) (cause : Error) (failure : Failure) (before after reads : ℕ) → IsToldAs cause failure
    → (IsReadFault before after reads cause ⊎ (cause ≡ OutOfMemory)
    ⊎ OfText (Some text) (λ t. IsRonRefusal t cause))
    → (failure ≡ Memory) ⊎ ((failure ≡ StoreText) × IsNoSavedText text)
not_loaded text cause failure before after reads (inl told) why = inl told.1
not_loaded text cause failure before after reads (inr told) (inl read) = absurd (told.0 read.0)
not_loaded text cause failure before after reads (inr told) (inr (inl memory)) = absurd (told.1 memory)
not_loaded text cause failure before after reads (inr told) (inr (inr of)) =
    inr (told.2, (cause, told.1, subst (λ t. IsRonRefusal t cause) of.1 of.2))

-- ---- the script, and what is saved

-- what is put behind nothing
pub behind_nothing : (old list text : List ℕ) → old ≡ [] → text ≡ old ++ list → text ≡ list
behind_nothing old list text none is = is ∙ ap (λ front. front ++ list) none

-- ---- the script that was played

-- what is said of what was left to read, and what is said of what was read, together where that is known
joined : {A B C : List ℕ → Type 0} (known : Option (List ℕ)) → ((input : List ℕ) → A input → B input → C input)
    → IfSome known A → (input : List ℕ) × IfSome known (λ whole. input ≡ whole) × B input → IfSome known C
joined None f a b = tt
joined {A} {B} {C} (Some whole) f a (input, is, b) = f whole a (subst B is b)

-- a script that ended so, by a key and draws of a generator that come from the seed
pub script_ends : (io : Devices) (asked : Asked) (rules : List Rule) (rows : List Row) (ended was : Ended)
    (Is : List Row → ℤ → Type 0) (key : List ℕ) (start : ChaCha) (new : List Row) (end : ℤ) (left : ChaCha)
    → was ≡ ended → key ≡ derived asked.seed → start ≡ of_seed asked.seed
    → IfSome io.left (λ input. (output : List ℕ) × Appends io.written.0 io.written.1 output
    × Runs Infallible rules (alone key) rows asked.at input output new end was)
    → (input : List ℕ) × IfSome io.left (λ whole. input ≡ whole) × DrawsSo IsFill Infallible start (λ drawn. IsScriptBy
    drawn rules (alone key) rows asked.at input io.written.0 io.written.1 new end (Ok was)) left
    → Is new end → ScriptEnds io asked rules rows ended Is
script_ends io asked rules rows ended was Is key start new end left is_ended is_key is_start text draws is =
    subst (λ e. ScriptEnds io asked rules rows e Is) is_ended (joined io.left (λ input h d. (
      h.0,
      h.1,
      (
        new,
        end,
        subst (λ k. Runs Infallible rules (alone k) rows asked.at input h.0 new end was) is_key h.2,
        (
          left,
          subst (λ k. DrawsSo IsFill Infallible (of_seed asked.seed) (λ drawn. IsScriptBy drawn rules (alone k) rows
              asked.at
              input io.written.0 io.written.1 new end (Ok was)) left) is_key
              (subst (λ s. DrawsSo IsFill Infallible s (λ drawn. IsScriptBy drawn rules (alone key) rows asked.at input
              io.written.0 io.written.1 new end (Ok was)) left) is_start d),
        ),
        is,
      ),
    )) text draws)

-- a script that ended whole, and whose rows have no saved text
pub unsaved : (io : Devices) (asked : Asked) (rules : List Rule) (rows : List Row) (failure : Failure)
    (new : List Row) (end : ℤ)
    → ((Is : List Row → ℤ → Type 0) → Is new end → ScriptEnds io asked rules rows Whole Is)
    → (failure ≡ Memory) ⊎ ((failure ≡ StoreText) × IsAnyBeforeYears (saved end new))
    → ScriptFails io asked rules rows failure
unsaved io asked rules rows failure new end ends (inl memory) =
    inr (inr (inr (memory, ends (λ new end. Unit {0}) tt)))
unsaved io asked rules rows failure new end ends (inr years) =
    inr (inr (inl (years.0, ends (λ new end. IsAnyBeforeYears (saved end new)) years.1)))

-- a failure is what the script gives
pub gives_failure : {V : Type 0} {P : Failure → Type 0} (io : Devices) (asked : Asked) (rules : List Rule)
    (rows : List Row) (text_of : V → List ℕ) (result : Result (Option V) Failure) → IsErrAnd result P
    → ((failure : Failure) → P failure → ScriptFails io asked rules rows failure)
    → ScriptGives io asked rules rows (result_map_both (option_map text_of) (λ failure. failure) result)
gives_failure io asked rules rows text_of (Ok given) is fails = absurd is
gives_failure io asked rules rows text_of (Err failure) is fails = fails failure is

-- ---- what the program tells

-- texts of which no client is made
pub no_client : (Untouched : Type 0) (io : Devices) (asked : Result Asked Failure) (words : Asked) (suffixes : List ℕ)
    (stored : Option (List ℕ)) (failure : Failure) → asked ≡ Ok words → MakesNoClient suffixes stored failure
    → Untouched → AskedGives Untouched io asked suffixes stored (Err failure)
no_client Untouched io asked words suffixes stored failure is makes same =
    subst (λ a. AskedGives Untouched io a suffixes stored (Err failure)) (sym is)
    (inl (failure, refl, makes, same))

-- what stands first against a run whose store file isn't read
pub store_unread : (Untouched : Type 0) (io : Devices) (words : List (List ℕ)) (asked : Asked) (suffixes : List ℕ)
    (failure first : Failure) → asked_of words ≡ Ok asked → Untouched → IsOfFiles failure
    → (first ≡ failure) ⊎ MakesNoList suffixes first → ProgramFails Untouched io words first
store_unread Untouched io words asked suffixes failure first is same of (inl as_failure) =
    inr (inl (asked, is, subst IsOfFiles (sym as_failure) of, same))
store_unread Untouched io words asked suffixes failure first is same of (inr makes) =
    inl (suffixes, None, no_client Untouched io (asked_of words) asked suffixes None first is (inl makes) same)

-- the text isn't written
pub store_unwritten : (Untouched : Type 0) (io : Devices) (words : List (List ℕ)) (suffixes : List ℕ)
    (stored : Option (List ℕ)) (given : Option (List ℕ)) (text : List ℕ) (failure : Failure) → given ≡ Some text
    → RunGives Untouched io words suffixes stored (Ok given) → (failure ≡ StoreFile) ⊎ (failure ≡ Memory)
    → ProgramFails Untouched io words failure
store_unwritten Untouched io words suffixes stored given text failure is gives why =
    inr (inr (
      why,
      (text, (suffixes, stored, subst (λ t. RunGives Untouched io words suffixes stored (Ok t)) is gives)),
    ))

-- status 0, and status 1
pub tells_whole : (Untouched : Type 0) (io : Devices) (words : List (List ℕ)) (suffixes : List ℕ)
    (stored : Option (List ℕ)) (given : Option (List ℕ)) (text : List ℕ) → given ≡ Some text
    → RunGives Untouched io words suffixes stored (Ok given) → ProgramTells Untouched io words 0 None
tells_whole Untouched io words suffixes stored given text is gives = inl (
  Some text,
  (refl, refl),
  (suffixes, stored, subst (λ t. RunGives Untouched io words suffixes stored (Ok t)) is gives),
)

pub tells_faulty : (Untouched : Type 0) (io : Devices) (words : List (List ℕ)) (suffixes : List ℕ)
    (stored : Option (List ℕ)) (given : Option (List ℕ)) → given ≡ None
    → RunGives Untouched io words suffixes stored (Ok given) → ProgramTells Untouched io words 1 None
tells_faulty Untouched io words suffixes stored given is gives = inl (
  None,
  (refl, refl),
  (suffixes, stored, subst (λ t. RunGives Untouched io words suffixes stored (Ok t)) is gives),
)

-- ---- the store file, under its lock

kept_by : (given : Result (Option (List ℕ)) Failure) (path : List ℕ) (stored : Option (List ℕ))
    → given_back (put_by given (Held (record { path = path; seen = Some stored; put = None })))
    ≡ kept_so path stored (text_of given)
kept_by (Ok (Some text)) path stored = refl
kept_by (Ok None) path stored = refl
kept_by (Err failure) path stored = refl

-- a run under the lock, which is given back then
pub keeps_store : (Untouched : Type 0) (io : Devices) (words : List (List ℕ)) (asked : Asked) (suffixes : List ℕ)
    (stored : Option (List ℕ)) (old held mid new : Lock) (status : ℕ) → asked_of words ≡ Ok asked
    → held ≡ Held (record { path = asked.store_file; seen = Some stored; put = None }) → new ≡ given_back mid
    → RunKeeps Untouched io words suffixes (held, mid) status → KeepsStore Untouched io words (old, new) status
keeps_store Untouched io words asked suffixes stored old held mid new status is held_is new_is keeps = inl (
  asked,
  suffixes,
  stored,
  keeps.0,
  is,
  subst (λ lock. RunGives Untouched io words suffixes (bytes_of lock) keeps.0) held_is keeps.1,
  keeps.2,
  new_is ∙ (ap given_back keeps.3 ∙ (ap (λ lock. given_back (put_by keeps.0 lock)) held_is
      ∙ kept_by keeps.0 asked.store_file stored)),
)

pub on_err : {T E : Type 0} {P Q : Type 0} (r : Result T E) → (P → Q) → OnErr r P → OnErr r Q
on_err (Ok x) f p = tt
on_err (Err e) f p = f p
