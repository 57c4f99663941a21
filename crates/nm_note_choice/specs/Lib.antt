pub mod NotesApart
