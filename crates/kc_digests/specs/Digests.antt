-- The digest of a page.
use Rattle.std.specs.Prelude.{ℕ, List}
use Rattle.std.specs.Borrow.{Bor}
use Rattle.sha2.specs.Sha256.{sha256}
use Rattle.kc_page.specs.PageBytes.{Content}

-- the SHA-256 of a page whose bytes `bytes` gives
abbrev pub digest_by : {P : Type 0} → (P → List ℕ) → P → List ℕ
digest_by bytes page = sha256 (bytes page)

-- the SHA-256 of the page's bytes
abbrev pub digest_of_bytes : Content → List ℕ
digest_of_bytes page = sha256 page.bytes

-- the same of a page that is lent
abbrev pub digest_lent : Bor Content → List ℕ
digest_lent page = sha256 page.now.bytes
