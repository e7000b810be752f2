-- The documents that a shelf in memory stores, the newest first.
use Rattle.std.specs.Prelude.{ℕ, ◌<◌, ◌≤◌, Bool, List, [], Option, None, Some, length, drop, map, slice_get}
use Rattle.std.specs.FinMap.{from_entries}
use Rattle.std.specs.Str.{bytes_eq}
use Rattle.qsr_outside.specs.Documents.{Documents}
use Rattle.qsr_outside.specs.declared.map_shelf.Document.{Document}
use Rattle.qsr_outside.specs.declared.map_shelf.Opened.{Opened}

-- the map of stored documents, where a newer one hides an older one of its name
abbrev pub documents_of : List Document → Documents
documents_of documents = from_entries (map (λ d. (d.name.items, d.bytes.items)) documents)

-- the document has this name
abbrev pub is_named : List ℕ → Document → Bool
is_named name document = bytes_eq name document.name.items

-- the bytes of a stored document, or none where there is none
abbrev pub bytes_of : Option Document → List ℕ
bytes_of None = []
bytes_of (Some document) = document.bytes.items

-- the bytes that are left of the open document, or none where none is open
abbrev pub left_of : List Document → Option Opened → List ℕ
left_of documents None = []
left_of documents (Some opened) = drop opened.at (bytes_of (slice_get documents opened.index))

-- a stored document, and a place in it
pub record IsPlace (documents : List Document) (index at : ℕ) : Type 0 where
  pub stored : index < length documents
  pub within : at ≤ length (bytes_of (slice_get documents index))

-- the open document, if there is one, is one of those stored
abbrev pub IsOpenIn : List Document → Option Opened → Type 0
IsOpenIn documents None = Unit {0}
IsOpenIn documents (Some opened) = IsPlace documents opened.index opened.at
