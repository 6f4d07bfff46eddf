-- The header of a request, by what started it.
use Rattle.std.proofs.Common.{◌≡◌, ◌∙◌, ℕ, ℤ, Bool, true, false, List, Result, Ok, Err, ap, inl, inr, subst, sym}
use Rattle.std.specs.Prelude.{IfOk}
use Rattle.std.specs.List.{AllByRecursion}
use Rattle.cookie_client.proofs.HostRows.{picked_keeps}
use Rattle.cookie_client.proofs.RowLists.{all_longest}
use Rattle.cookie_store.specs.Given.{IsGiven}
use Rattle.cookie_store.specs.Rows.{Row, Store}
use Rattle.publicsuffix.specs.Rules.{Rule}
use Rattle.url.specs.Parts.{Parts}
use Rattle.user_agent.specs.CrossSite.{IsHeaderFor, is_sent}
use Rattle.user_agent.specs.Headers.{IsHeaderBehind, free_rows, is_free, left_if}
use Rattle.user_agent.specs.SecureWins.{winners, wins}
use Rattle.user_agent.specs.Sites.{is_safe_navigation}
use Rattle.user_agent.specs.declared.rules.Rules.{Rules}
use Rattle.user_agent.specs.declared.sites.Initiator.{Initiator}
use Rattle.cookie_jar.specs.Keeping.{AreKept, IsClean, has_control}
use Rattle.cookie_jar.specs.Told.{header_line}
use Rattle.cookie_jar.proofs.KeepLemmas.{all_clean, clean_of}
use Rattle.cookie_jar.proofs.RowLemmas.{filter_all}

winners_clean : (on : Bool) (rows : List Row) → AllByRecursion IsClean rows
    → AllByRecursion IsClean (left_if on winners rows)
winners_clean true rows clean = filter_all IsClean (wins rows) rows clean
winners_clean false rows clean = clean

left_clean : (on : Bool) (rows : List Row) → AllByRecursion IsClean rows
    → AllByRecursion IsClean (left_if on free_rows rows)
left_clean true rows clean = filter_all IsClean is_free rows clean
left_clean false rows clean = clean

-- the header of rows without a control character has none, whatever rules leave out
behind_clean : (rules : Rules) (rows : List Row) (url : Parts) (now : ℤ) (header : List ℕ)
    → AllByRecursion IsClean rows → IsHeaderBehind rules rows url now header → has_control header ≡ false
behind_clean rules rows url now header clean is =
    let (given, are, longest) = is.are_given in
    let all = all_longest IsClean given is.given longest
    (picked_keeps (λ row. IsGiven row url now) IsClean rows given are clean) in
    subst (λ h. has_control h ≡ false) (sym is.printed)
    (all_clean _ (left_clean rules.control _ (winners_clean rules.secure_wins is.given all)))

started_clean : (rules : Rules) (list : List Rule) (rows : List Row) (url : Parts) (initiator : Initiator) (now : ℤ)
    (header : List ℕ) → AreKept rows → IsHeaderFor rules list rows url initiator now header
    → has_control header ≡ false
started_clean rules list rows url initiator now header kept (inl (across, is)) =
    behind_clean rules _ url now header
    (filter_all IsClean (is_sent rules.lax_by_default (is_safe_navigation initiator)) rows (clean_of rows kept)) is
started_clean rules list rows url initiator now header kept (inr (within, is)) =
    behind_clean rules rows url now header (clean_of rows kept) is

-- and its line
pub started_line : {A E : Type 0} (r : Result A E) (bytes : A → List ℕ) (rules : Rules) (store jar : Store)
    (url : Parts) (initiator : Initiator) (now : ℤ) (header text : List ℕ) → store ≡ jar → AreKept jar.rows
    → IsHeaderFor rules store.suffixes store.rows url initiator now header → text ≡ header
    → IfOk r (λ line. bytes line ≡ header_line text)
    → IfOk r (λ line. (h : List ℕ) × IsHeaderFor rules jar.suffixes jar.rows url initiator now h
    × (bytes line ≡ header_line h) × (has_control h ≡ false))
started_line (Ok line) bytes rules store jar url initiator now header text same kept is copied printed =
    let own = subst (λ (s : Store). IsHeaderFor rules s.suffixes s.rows url initiator now header) same is in (
      header,
      own,
      printed ∙ ap header_line copied,
      started_clean rules jar.suffixes jar.rows url initiator now header kept own,
    )
started_line (Err e) bytes rules store jar url initiator now header text same kept is copied printed = tt
