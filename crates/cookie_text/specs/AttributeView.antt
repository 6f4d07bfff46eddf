-- An attribute of the code, as a definition sees it.
use Rattle.cookie_text.specs.declared.attribute.Attribute.{Attribute as Held}
use Rattle.cookie_text.specs.declared.attribute.Attribute.TheVariants as held
use Rattle.cookie_text.specs.Attribute.{Attribute, HttpOnly, Secure, Partitioned, OfSite, MaxAge, Path, Domain, Expires}

abbrev pub attribute_view : Held → Attribute
attribute_view held.HttpOnly = HttpOnly
attribute_view held.Secure = Secure
attribute_view held.Partitioned = Partitioned
attribute_view (held.SameSite s) = OfSite s
attribute_view (held.MaxAge z) = MaxAge z
attribute_view (held.Path text) = Path text.now
attribute_view (held.Domain text) = Domain text.now
attribute_view (held.Expires d) = Expires d
