-- The test of a URL's own text.
use Rattle.std.proofs.Common.{◌≡◌, ◌↔◌, ℕ, Bool, List, [], drop, length, map, take}
use Rattle.std.specs.Prelude.{IsTrue, codes}
use Rattle.std.specs.Bool.{Decides}
use Rattle.std.specs.Char.{to_ascii_lowercase}
use Rattle.std.proofs.lemmas.Bool.Decides.{Decides-and, Decides-or, same_from_decides}
use Rattle.std.proofs.lemmas.Slice.Eq.{bytes_eq-Decides}
use Rattle.url.specs.Parts.{Parts}
use Rattle.plain_url.specs.Plain.{IsOwnText, is_own_text, site, target}

pub own_decides : (text : List ℕ) (url : Parts) → Decides (is_own_text text url) (IsOwnText text url)
own_decides text url =
    let front = map to_ascii_lowercase (take (length (site url)) text) in
    let lower = map to_ascii_lowercase (site url) in
    let rest = drop (length (site url)) text in
    let scheme =
    Decides-or _ _ (bytes_eq-Decides url.scheme (codes "http")) (bytes_eq-Decides url.scheme (codes "https")) in
    let web = Decides-and _ _ scheme (λ e. e, λ e. e) in
    let user = Decides-and _ _ (bytes_eq-Decides url.username []) (bytes_eq-Decides url.password []) in
    let bare = Decides-and _ _ (bytes_eq-Decides rest []) (bytes_eq-Decides (target url) (codes "/")) in
    let end = Decides-or _ _ (bytes_eq-Decides rest (target url)) bare in
    let all = Decides-and _ _ web (Decides-and _ _ user (Decides-and _ _ (bytes_eq-Decides front lower) end)) in (
      λ e. let own = all.0 e in
          record { web = own.0; user = own.1.0; same_site = own.1.1.0; same_target = own.1.1.1 },
      λ own. all.1 (own.web, (own.user, (own.same_site, own.same_target))),
    )

pub same_test : (told : Bool) (text : List ℕ) (url : Parts) → (IsTrue told ↔ IsOwnText text url)
    → told ≡ is_own_text text url
same_test told text url both =
    same_from_decides told (is_own_text text url) (λ e. both.0 e, λ own. both.1 own) (own_decides text url)
