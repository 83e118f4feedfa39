-- Pools in order of first mention: what is mentioned stands once, where it was mentioned first, and each entry is
-- followed at once by those that it names and that aren't there yet.
use Rattle.std.specs.Prelude.{ℕ, ◌+◌, Bool, false, ◌&&◌, ◌==◌, nat_lt, if◌then◌else◌, List, [], ◌∷◌, ◌++◌, map, Option, Some, None, position}
use Rattle.std.specs.List.{list_any}
use Rattle.std.specs.Str.{bytes_eq}
use Rattle.class_pool.specs.declared.entry.Entry.{Entry}
use Rattle.class_pool.specs.declared.entry.Entry.TheVariants as entries
use Rattle.class_making.specs.declared.item.Item.{Item}
use Rattle.class_making.specs.declared.item.Item.TheVariants.{Text, Integer, Class, Str, NameAndType, Field, Method, InterfaceMethod}

abbrev pub same_item : Item → Item → Bool
same_item (Text a) (Text b) = bytes_eq a b
same_item (Integer a) (Integer b) = a == b
same_item (Class a) (Class b) = bytes_eq a b
same_item (Str a) (Str b) = bytes_eq a b
same_item (NameAndType a b) (NameAndType c d) = bytes_eq a c && bytes_eq b d
same_item (Field a b c) (Field d e f) = bytes_eq a d && (bytes_eq b e && bytes_eq c f)
same_item (Method a b c) (Method d e f) = bytes_eq a d && (bytes_eq b e && bytes_eq c f)
same_item (InterfaceMethod a b c) (InterfaceMethod d e f) = bytes_eq a d && (bytes_eq b e && bytes_eq c f)
same_item a b = false

-- an item and those that it names, depth first
abbrev pub expanded : Item → List Item
expanded (Text t) = Text t ∷ []
expanded (Integer n) = Integer n ∷ []
expanded (Class name) = Class name ∷ Text name ∷ []
expanded (Str text) = Str text ∷ Text text ∷ []
expanded (NameAndType name descriptor) = NameAndType name descriptor ∷ Text name ∷ Text descriptor ∷ []
expanded (Field owner name descriptor) = Field owner name descriptor ∷ Class owner ∷ Text owner ∷ NameAndType name descriptor ∷ Text name ∷ Text descriptor ∷ []
expanded (Method owner name descriptor) = Method owner name descriptor ∷ Class owner ∷ Text owner ∷ NameAndType name descriptor ∷ Text name ∷ Text descriptor
    ∷ []
expanded (InterfaceMethod owner name descriptor) = InterfaceMethod owner name descriptor ∷ Class owner ∷ Text owner ∷ NameAndType name descriptor ∷ Text name
    ∷ Text descriptor ∷ []

-- the item goes last, unless it is there
abbrev pub with_item : List Item → Item → List Item
with_item items x = if list_any (same_item x) items then items else items ++ x ∷ []

abbrev pub with_all : List Item → List Item → List Item
with_all items [] = items
with_all items (x ∷ xs) = with_all (with_item items x) xs

-- what is there after a mention
abbrev pub mention : List Item → Item → List Item
mention items x = with_all items (expanded x)

-- the index of an item, and 0 where it isn't there
abbrev pub index_from : Option ℕ → ℕ
index_from None = 0
index_from (Some place) = if nat_lt place 65534 then place + 1 else 0

abbrev pub index_of : List Item → Item → ℕ
index_of items x = index_from (position (same_item x) items)

-- the entry of an item in the pool of these items
abbrev pub entry_of : List Item → Item → Entry
entry_of items (Text t) = entries.Utf8 t
entry_of items (Integer n) = entries.Integer n
entry_of items (Class name) = entries.Class (index_of items (Text name))
entry_of items (Str text) = entries.Text (index_of items (Text text))
entry_of items (NameAndType name descriptor) = entries.NameAndType (index_of items (Text name)) (index_of items (Text descriptor))
entry_of items (Field owner name descriptor) = entries.Field (index_of items (Class owner)) (index_of items (NameAndType name descriptor))
entry_of items (Method owner name descriptor) = entries.Method (index_of items (Class owner)) (index_of items (NameAndType name descriptor))
entry_of items (InterfaceMethod owner name descriptor) = entries.InterfaceMethod (index_of items (Class owner)) (index_of items (NameAndType name descriptor))

abbrev pub pool_of : List Item → List Entry
pool_of items = map (entry_of items) items

-- what is there after several mentions
abbrev pub mention_each : List Item → List Item → List Item
mention_each items [] = items
mention_each items (x ∷ xs) = mention_each (mention items x) xs
