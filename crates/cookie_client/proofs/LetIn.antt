-- What a client that enforces `__Host-` lets in conforms to it.
use Rattle.std.proofs.Common.{◌≡◌, ◌⊎◌, ℕ, Bool, true, false, List, sym, refl, ap, ⊎_elim, inl, inr, Option, Some, None}
use Rattle.std.proofs.Common.{Ok, codes}
use Rattle.std.specs.Str.{bytes_eq, IsUtf8}
use Rattle.std.proofs.lemmas.Bool.{cases_Bool, both_ways}
use Rattle.cookie_text.specs.Reading.{ReadsPlain}
use Rattle.cookie_text.specs.Record.{Seen, domain_of}
use Rattle.url.specs.Parts.{Parts}
use Rattle.cookie.specs.Prefix.{IsHost}
use Rattle.cookie_client.specs.HostPrefix.{BeginsHost, IsAgainstHost}
use Rattle.cookie_client.proofs.Texts.{same_text, texts_differ, some_is_not_none}

-- ---- what isn't against the prefix conforms

some_same : {A : Type 0} {x y : A} → Some x ≡ Some y → x ≡ y
some_same e = cc

flag_or : (o : Option Bool) → (o ≡ Some true) ⊎ (¬ (o ≡ Some true))
flag_or None = inr (λ e. some_is_not_none true (sym e))
flag_or (Some true) = inl refl
flag_or (Some false) = inr (λ e. both_ways false refl (some_same e))

path_or : (o : Option (List ℕ)) → (o ≡ Some (codes "/")) ⊎ (¬ (o ≡ Some (codes "/")))
path_or None = inr (λ e. some_is_not_none (codes "/") (sym e))
path_or (Some x) =
    ⊎_elim
    (λ (e : bytes_eq x (codes "/") ≡ true). inl (ap Some (same_text x (codes "/") e)))
    (λ (e : bytes_eq x (codes "/") ≡ false). inr (λ same. texts_differ x (codes "/") e (some_same same)))
    (cases_Bool (bytes_eq x (codes "/")))

none_or : (o : Option (List ℕ)) → (o ≡ None) ⊎ (¬ (o ≡ None))
none_or None = inl refl
none_or (Some x) = inr (some_is_not_none x)

pub conform_or : (s : Seen) → IsHost s ⊎ (¬ (IsHost s))
conform_or s = weigh (flag_or s.cookie.secure) (path_or s.cookie.path) (none_or (domain_of s.cookie))
  where
    weigh : (s.cookie.secure ≡ Some true) ⊎ (¬ (s.cookie.secure ≡ Some true))
        → (s.cookie.path ≡ Some (codes "/")) ⊎ (¬ (s.cookie.path ≡ Some (codes "/")))
        → (domain_of s.cookie ≡ None) ⊎ (¬ (domain_of s.cookie ≡ None)) → IsHost s ⊎ (¬ (IsHost s))
    weigh (inl secure) (inl path) (inl none) = inl (record { secure = secure; path = path; domain = none })
    weigh (inr wrong) path none = inr (λ h. wrong h.secure)
    weigh (inl secure) (inr wrong) none = inr (λ h. wrong h.path)
    weigh (inl secure) (inl path) (inr wrong) = inr (λ h. wrong h.domain)

https_or : (url : Parts) → (url.scheme ≡ codes "https") ⊎ (¬ (url.scheme ≡ codes "https"))
https_or url =
    ⊎_elim
    (λ (e : bytes_eq url.scheme (codes "https") ≡ true). inl (same_text url.scheme (codes "https") e))
    (λ (e : bytes_eq url.scheme (codes "https") ≡ false). inr (texts_differ url.scheme (codes "https") e))
    (cases_Bool (bytes_eq url.scheme (codes "https")))

pub free_conforms : (url : Parts) (line : List ℕ) (s : Seen) → ¬ (IsAgainstHost url line) → IsUtf8 line
    → ReadsPlain line (Ok s) → BeginsHost s.cookie.name → IsHost s × (url.scheme ≡ codes "https")
free_conforms url line s free utf8 reads begins = weigh (conform_or s) (https_or url)
  where
    weigh : IsHost s ⊎ (¬ (IsHost s)) → (url.scheme ≡ codes "https") ⊎ (¬ (url.scheme ≡ codes "https"))
        → IsHost s × (url.scheme ≡ codes "https")
    weigh (inl conforms) (inl secure) = (conforms, secure)
    weigh (inl conforms) (inr plain) = absurd (free (utf8, (s, reads, (begins, (λ both. plain both.1)))))
    weigh (inr breaks) secure = absurd (free (utf8, (s, reads, (begins, (λ both. breaks both.0)))))
